pub mod Answer
pub mod Descent
