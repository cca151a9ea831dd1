pub mod Promises
pub mod Ready
