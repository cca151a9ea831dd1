pub mod Flag
pub mod Judgement
pub mod SheetReply
