pub mod Slots
pub mod Numbers
pub mod Tier
pub mod Removing
pub mod Emptying
