pub mod Divides
pub mod Grids
