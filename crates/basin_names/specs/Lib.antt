pub mod Named
pub mod Indices
