pub mod Fields
pub mod Tags
pub mod Checks
pub mod Walk
pub mod Kept
pub mod Joined
pub mod WellFormed
