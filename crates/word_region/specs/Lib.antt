pub mod Words
pub mod Lending
