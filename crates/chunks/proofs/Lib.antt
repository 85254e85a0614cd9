pub mod Covering
pub mod Eights
pub mod Marks
pub mod Freeing
pub mod LowMark
