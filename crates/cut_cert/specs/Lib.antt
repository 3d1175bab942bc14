pub mod Sets
pub mod Callers
pub mod Rows
