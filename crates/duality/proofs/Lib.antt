pub mod CutBalance
pub mod Duality
pub mod Greatest
pub mod Sheltered
pub mod Balance
pub mod Outcome
pub mod Returns
pub mod Stays
pub mod Parts
pub mod Alike
mod Examples
