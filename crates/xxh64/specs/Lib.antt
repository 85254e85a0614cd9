-- XXH64 with seed 0.
pub mod Hash
