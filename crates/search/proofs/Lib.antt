pub mod Slots
pub mod Finding
pub mod Landing
pub mod Seeking
pub mod Fitting
pub mod Reaching
pub mod Ending
