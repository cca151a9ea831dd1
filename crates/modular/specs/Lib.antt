pub mod Prime
pub mod Inverse
pub mod Gcd
pub mod Finds
pub mod Rounds
pub mod FactorList
pub mod PrimeTest
pub mod Capped
