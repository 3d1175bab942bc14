pub mod Firsts
pub mod Chains
pub mod Rights
