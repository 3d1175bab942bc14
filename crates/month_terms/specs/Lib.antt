pub mod Calendars
pub mod Terms
