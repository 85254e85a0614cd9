pub mod Rules
pub mod Decide
pub mod Versions
pub mod Block
pub mod Worked
