-- The laws of lifting; one round of it in code; joining.
pub mod Lifting
pub mod Rounds
pub mod Joining
