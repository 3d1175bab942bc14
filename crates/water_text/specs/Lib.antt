pub mod Amounts
pub mod Days
pub mod Fields
pub mod LinesIn
pub mod Months
pub mod Names
pub mod Shapes
