pub mod Unlinking
pub mod Asking
pub mod GoingHome
