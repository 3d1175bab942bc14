pub mod Sending
pub mod Kept
pub mod Preferred
