pub mod Answers
pub mod HelpTexts
pub mod Keeping
pub mod Whole
pub mod Months
pub mod Determined
