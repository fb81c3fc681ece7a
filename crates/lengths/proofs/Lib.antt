pub mod Surds
pub mod Cases
pub mod Ordered
pub mod Laws
