pub mod Edits
pub mod Replaced
