pub mod Inversions
pub mod Inner
