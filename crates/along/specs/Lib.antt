pub mod Along
pub mod Asks
