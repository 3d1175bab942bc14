pub mod Parts
pub mod Laws
pub mod Alike
pub mod Balance
