pub mod Decimals
pub mod Spellings
pub mod Bytes
pub mod Putting
pub mod Writing
pub mod Rows
