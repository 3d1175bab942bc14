pub mod Core
pub mod Next
pub mod Laws
pub mod Helped
