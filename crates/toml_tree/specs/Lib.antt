pub mod Document
pub mod Items
pub mod Values
pub mod Texts
pub mod FirstIndices
