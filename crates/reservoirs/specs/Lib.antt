pub mod AreaFaults
pub mod Laws
