-- Remainders of sums and products; sums; tables; a loop that fills a slice from the front; tests of one thing.
pub mod Remainders
pub mod Sums
pub mod Tables
pub mod Fill
pub mod Tests
