pub mod Rotation
pub mod OneResult
pub mod Counting
pub mod Putting
pub mod Prefixes
pub mod Examples
pub mod Running
pub mod Lines
