pub mod Quantities
pub mod Spelling
pub mod OfBasin
pub mod Text
