pub mod Chains
pub mod Walk
