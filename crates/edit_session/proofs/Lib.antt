pub mod Changes
pub mod Playing
