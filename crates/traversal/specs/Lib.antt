pub mod Traversal
pub mod Turns
pub mod Grids
