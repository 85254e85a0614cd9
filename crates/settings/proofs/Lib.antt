pub mod Versions
pub mod Laws
pub mod Powers
