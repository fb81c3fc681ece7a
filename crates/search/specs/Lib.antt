pub mod Search
pub mod Editions
pub mod Neighbours
pub mod Tracing
pub mod Demand
pub mod Tighter
pub mod Smith
