mod Building
pub mod Walking
