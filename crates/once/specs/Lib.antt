pub mod Sharing
pub mod Refs
pub mod Walk
pub mod Asking
