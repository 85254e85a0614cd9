pub mod Reading
pub mod Decided
pub mod Order
