pub mod Decoded
pub mod Inner
