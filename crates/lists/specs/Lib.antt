pub mod Cases
pub mod Decide
pub mod Lists
pub mod Quantify
pub mod Runs
