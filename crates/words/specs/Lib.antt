-- Numbers and bits in lists of bytes.
pub mod Bytes
pub mod Same
pub mod Numbers
pub mod Bits
