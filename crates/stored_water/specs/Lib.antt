pub mod ShareLaws
pub mod AccountLaws
pub mod Shown
pub mod DrawLaws
pub mod PlainLaws
pub mod StepLaws
