pub mod Draws
pub mod Entries
pub mod Generator
pub mod Laws
