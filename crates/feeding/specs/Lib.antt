pub mod Sent
pub mod Told
pub mod Unmixings
pub mod Inner
