pub mod Noting
pub mod Grids
