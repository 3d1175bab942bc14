pub mod AmountLaws
pub mod DayNumbers
pub mod DecimalDigits
pub mod LineFeeds
pub mod MonthLaws
pub mod ShapeLaws
pub mod Values
pub mod Splits
