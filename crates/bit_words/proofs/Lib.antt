pub mod Lists
pub mod Marks
pub mod LowestBit
pub mod BothMarked
