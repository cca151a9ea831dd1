pub mod Outcome
pub mod Page
pub mod Report
