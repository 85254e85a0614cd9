pub mod Testing
pub mod Walking
pub mod Agreeing
pub mod Finding
