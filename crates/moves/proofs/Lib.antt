pub mod Codes
pub mod Spots
pub mod Flowing
pub mod Walking
pub mod Staying
pub mod Inflow
