pub mod Uses
pub mod Runs
pub mod Works
pub mod RunInside
pub mod Laws
