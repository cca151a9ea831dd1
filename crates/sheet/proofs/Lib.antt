pub mod Entries
pub mod Walking
pub mod Parts
pub mod Written
pub mod FirstBytes
pub mod OneAnswer
