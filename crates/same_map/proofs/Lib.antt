pub mod Pairs
pub mod Maps
pub mod Runs
pub mod Answers
pub mod Delays
