pub mod Tiers
pub mod Places
pub mod Frame
pub mod FramedTier
