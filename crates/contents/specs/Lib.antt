pub mod Contents
pub mod Counting
pub mod Asking
