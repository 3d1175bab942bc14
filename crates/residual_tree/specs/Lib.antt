pub mod Tree
pub mod UnlabeledMarks
pub mod TreeWords
pub mod Repair
pub mod Adopting
pub mod Raised
pub mod Kept
pub mod Laws
