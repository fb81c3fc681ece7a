pub mod Tracing
pub mod Grids
