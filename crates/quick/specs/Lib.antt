pub mod Quick
pub mod Claims
pub mod Telling
