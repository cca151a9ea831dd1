-- What arrays hold; the last rows; the answer; the divisions and the calls.
pub mod Arrays
pub mod LastRows
pub mod Answers
pub mod Descent
