pub mod Range
pub mod Members
pub mod Begun
pub mod Lines
