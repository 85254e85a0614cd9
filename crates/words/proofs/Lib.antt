pub mod Bytes
pub mod Numbers
pub mod Bits
pub mod Cuts
