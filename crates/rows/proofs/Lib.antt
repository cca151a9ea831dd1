-- Shoup's quotient; loops over rows.
pub mod Shoup
pub mod Rows
