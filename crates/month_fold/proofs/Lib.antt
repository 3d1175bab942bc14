pub mod Following
pub mod Resuming
pub mod Standing
pub mod Whole
pub mod Works
pub mod Outcomes
