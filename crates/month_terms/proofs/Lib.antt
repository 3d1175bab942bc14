pub mod Adds
pub mod Amounts
pub mod Bounds
pub mod BlankRecords
pub mod Calendars
pub mod WaterYears
pub mod Mapped
