pub mod Saying
pub mod Gathering
pub mod Covering
pub mod OneTier
pub mod Sums
pub mod Chains
pub mod Answer
