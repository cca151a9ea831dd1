-- Products with two terms; the next terms of a quotient; terms added to a part of an array; the division's loop.
pub mod Linear
pub mod Digits
pub mod Parts
pub mod Dividing
