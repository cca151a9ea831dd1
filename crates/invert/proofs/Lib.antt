-- The steps along the factor list.
pub mod Steps
