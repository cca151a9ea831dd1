pub mod Takes
pub mod Number
pub mod Solution
