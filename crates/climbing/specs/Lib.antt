pub mod Giving
pub mod Grids
