pub mod Encode
pub mod Digits
pub mod Decode
