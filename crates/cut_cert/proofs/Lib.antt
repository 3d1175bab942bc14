pub mod Bounds
pub mod Chain
pub mod RowSums
pub mod BoundParts
pub mod Callers
pub mod Claims
pub mod Search
pub mod Listed
