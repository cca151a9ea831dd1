-- The laws by subject: sums and multiples entry by entry; the product; inverses; what reduce and fold keep; 000's matrix; lifting and gluing of inverses.
pub mod Entries
pub mod Product
pub mod Inverses
pub mod Reduce
pub mod Fold
pub mod Matrix
pub mod Lift
pub mod Glue
