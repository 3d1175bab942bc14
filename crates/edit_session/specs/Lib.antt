pub mod Sessions
pub mod SessionInside
pub mod Laws
pub mod Shown
