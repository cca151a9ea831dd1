pub mod Passes
pub mod Walks
pub mod Sound
pub mod Rows
pub mod Table
pub mod Joined
pub mod Beyond
