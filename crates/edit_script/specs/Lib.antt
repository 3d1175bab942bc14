pub mod Edits
pub mod Lines
pub mod Scripts
pub mod Laws
