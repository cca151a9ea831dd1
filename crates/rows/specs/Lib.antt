pub mod Row
pub mod Near
