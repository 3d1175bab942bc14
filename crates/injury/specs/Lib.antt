pub mod Common
pub mod OneMore
pub mod Changed
pub mod Injuries
pub mod Laws
