pub mod Raised
pub mod Search
