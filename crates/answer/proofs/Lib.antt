-- Lists of checks; that a contract of the form `Meets` has one answer, and where it has one.
pub mod Firsts
pub mod OneAnswer
