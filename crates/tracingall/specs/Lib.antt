pub mod Searching
pub mod Grids
