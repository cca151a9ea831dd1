-- What a call that is not refused has been given; and that each call has one answer.
pub mod Legal
pub mod OneAnswer
