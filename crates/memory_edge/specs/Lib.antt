pub mod Memory
pub mod Watched
