pub mod Spelled
pub mod Upgraded
pub mod BasinFaults
pub mod Sound
pub mod Laws
