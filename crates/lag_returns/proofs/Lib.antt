pub mod Arrivals
pub mod Months
pub mod Indices
pub mod ValidRows
