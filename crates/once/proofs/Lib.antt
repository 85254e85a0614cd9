pub mod Refs
pub mod Reading
pub mod Tiers
pub mod Walking
pub mod Passes
pub mod Searching
