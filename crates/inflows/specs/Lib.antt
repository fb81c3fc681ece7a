pub mod Values
pub mod Grids
