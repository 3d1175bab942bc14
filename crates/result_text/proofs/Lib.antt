pub mod Members
pub mod Whole
pub mod Examples
pub mod Monthly
