pub mod Holding
pub mod Adding
pub mod Examples
