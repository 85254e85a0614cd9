pub mod Joining
pub mod Asking
