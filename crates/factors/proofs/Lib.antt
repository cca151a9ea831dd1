-- The entries that are left after the first i.
pub mod Entries
