pub mod Removal
pub mod Asking
