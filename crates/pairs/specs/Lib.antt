-- Signed delays by pair of channels, over the store.
pub mod Pairs
pub mod Delays
pub mod History
pub mod Quick
pub mod Asking
