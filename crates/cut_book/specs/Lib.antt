pub mod Entries
pub mod Holders
pub mod Book
pub mod Shortages
pub mod Laws
