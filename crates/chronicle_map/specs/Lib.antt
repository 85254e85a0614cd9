pub mod Asked
pub mod Calls
pub mod History
pub mod Demands
