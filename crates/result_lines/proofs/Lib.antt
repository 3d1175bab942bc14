pub mod Quantities
pub mod RiverRows
