pub mod Cut
pub mod Packed
pub mod Filling
pub mod Grids
