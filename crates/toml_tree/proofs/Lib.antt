pub mod ItemLaws
pub mod IndexLaws
