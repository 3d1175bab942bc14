pub mod Figures
pub mod Reports
pub mod Ends
pub mod Laws
pub mod Tallies
pub mod Texts
