pub mod Tiers
pub mod Apart
pub mod Places
pub mod Marks
pub mod Chunks
pub mod Frames
pub mod Bounds
pub mod PlaceBytes
