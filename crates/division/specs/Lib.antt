pub mod Limits
pub mod Division
pub mod Terms
