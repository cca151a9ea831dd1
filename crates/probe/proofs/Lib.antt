-- For each input one answer.
pub mod OneAnswer
