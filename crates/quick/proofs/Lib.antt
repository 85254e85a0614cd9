pub mod Opening
pub mod Answering
pub mod Agreeing
