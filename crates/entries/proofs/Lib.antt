pub mod Slots
pub mod Powers
pub mod Hashes
pub mod Sizes
pub mod Matching
pub mod Whole
pub mod LiveLists
pub mod FullSlots
