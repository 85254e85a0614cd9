pub mod Growing
pub mod Asking
