pub mod Offsets
pub mod Flowing
pub mod Grids
