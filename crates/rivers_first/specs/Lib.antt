pub mod Rounds
pub mod Sent
