pub mod Checks
pub mod Factors
pub mod Blames
pub mod Order
pub mod Legal
