pub mod Steps
pub mod Grammar
pub mod Prefixes
pub mod Placing
pub mod Members
pub mod Growing
pub mod NameLaws
pub mod WordLaws
pub mod Sayings
pub mod StandingLaws
pub mod LinesLeft
pub mod Spelled
mod MemberTexts
mod NodeTexts
pub mod Accepting
pub mod Telling
pub mod Sets
pub mod MonthRead
pub mod WholeMonth
pub mod AllRead
pub mod OfTexts
pub mod OneReading
mod Examples
pub mod TextForm
pub mod Histories
