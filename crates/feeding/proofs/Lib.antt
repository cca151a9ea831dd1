-- What unmixing gives, and what comparing two sides gives.
pub mod Unmixing
pub mod Comparing
