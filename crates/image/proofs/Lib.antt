pub mod Stages
pub mod Ready
pub mod Rest
pub mod Picking
