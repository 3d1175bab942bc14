pub mod Traces
pub mod Counts
pub mod Entries
pub mod Text
pub mod Sums
pub mod Ends
pub mod Laws
