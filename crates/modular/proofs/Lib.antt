-- Trial division, and primes tested; extended Euclid on numbers and what it finds; primes in products; factor lists: every number has one, and only one, how long,
-- their powers multiplied entry by entry; doublings.
pub mod Trial
pub mod Euclid
pub mod Inverses
pub mod Divisions
pub mod Primes
pub mod Factors
pub mod Entries
pub mod HasList
pub mod PrimeTest
pub mod Running
pub mod Doublings
