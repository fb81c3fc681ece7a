pub mod Passes
pub mod Grids
