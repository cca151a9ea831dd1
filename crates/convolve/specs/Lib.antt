pub mod Mixable
pub mod Layout
pub mod Inner
