pub mod RollView
pub mod Rolls
pub mod RollFaults
pub mod SeniorityOrder
pub mod Priorities
pub mod Tables
pub mod Zones
pub mod Laws
