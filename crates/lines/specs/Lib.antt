pub mod Decimal
pub mod Words
pub mod Items
pub mod Lines
pub mod Put
pub mod Puts
pub mod Writes
