pub mod Factored
