-- Rings and polynomials; modulo one prime; the first powers of a factor list; along it; ghosts; what a legal call has been given; unmixing; one answer, and
-- that there is one; demands 2 and 3; what is rejected.
pub mod Link
pub mod OnePrime
pub mod FirstPowers
pub mod Patterns
pub mod Ghosts
pub mod Granted
pub mod Unmixing
pub mod OneAnswer
pub mod Existence
pub mod Demand2
pub mod Demand3
pub mod Rejected
