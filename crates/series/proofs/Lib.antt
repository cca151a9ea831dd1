-- Numbers and series modulo m; degrees; division; the two rows of the extended Euclid and what they end in; inverses and ghosts; modulo a prime.
pub mod Residues
pub mod Products
pub mod SeriesRing
pub mod Degrees
pub mod Lengths
pub mod Quotients
pub mod Cycle
pub mod Folded
pub mod TwoRows
pub mod Ghosts
pub mod Inverses
pub mod Ends
pub mod Units
pub mod Existence
pub mod Singular
