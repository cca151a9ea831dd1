pub mod Numbers
pub mod Reply
pub mod Check
pub mod Answer
pub mod Refuse
pub mod First
pub mod Contract
