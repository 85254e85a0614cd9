pub mod Chunks
pub mod Counting
pub mod Asking
