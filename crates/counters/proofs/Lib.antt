-- A tier that is recounted.
pub mod CountRoom
pub mod Recounting
pub mod LowMarks
pub mod FullCount
