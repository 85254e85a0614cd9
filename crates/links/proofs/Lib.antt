-- The laws of linked lists.
pub mod Splits
pub mod Runs
pub mod Once
pub mod Follow
pub mod Edits
pub mod Along
pub mod Example
pub mod Standing
