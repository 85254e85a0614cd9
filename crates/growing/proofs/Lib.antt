pub mod Emptying
pub mod Reshaped
pub mod NewTiers
pub mod Bytes
pub mod Chains
pub mod Tiers
pub mod Sound
pub mod Loops
