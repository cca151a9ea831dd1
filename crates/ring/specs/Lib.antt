pub mod Ring
pub mod Mix
pub mod One
pub mod Entrywise
pub mod Reduce
pub mod Fold
pub mod Inverse
pub mod Matrix
