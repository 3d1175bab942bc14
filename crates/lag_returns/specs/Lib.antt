pub mod Lags
pub mod ReturnFlows
pub mod Laws
