pub mod Keys
pub mod Stored
pub mod Live
pub mod Pairs
pub mod Asking
pub mod Telling
