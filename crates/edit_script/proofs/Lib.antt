pub mod Reading
pub mod Columns
