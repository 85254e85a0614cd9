-- Linear probing on a table of slots.
pub mod Ring
pub mod Table
pub mod Counting
pub mod Search
pub mod Removal
