-- The laws of linear probing.
pub mod Ring
pub mod Table
pub mod Search
pub mod Seeking
pub mod Insertion
pub mod Shifting
pub mod Removal
pub mod Has
