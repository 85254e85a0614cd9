pub mod Decimal
pub mod Adding
pub mod Samples
