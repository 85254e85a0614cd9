pub mod Runs
pub mod Placement
pub mod OldEntry
pub mod Asking
pub mod Walking
