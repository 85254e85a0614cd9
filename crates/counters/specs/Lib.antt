pub mod Recount
pub mod LowMarks
pub mod Asking
