pub mod Walked
pub mod Sheets
pub mod Entries
pub mod Held
pub mod Written
