-- The place that 6 tells; the checks of a factor list, and what their refusals say; what the checks let pass.
pub mod FirstHigh
pub mod FactorCheck
pub mod Blame
pub mod Orders
