pub mod Added
pub mod First
