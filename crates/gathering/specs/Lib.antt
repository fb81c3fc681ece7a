pub mod Gathering
pub mod Grids
