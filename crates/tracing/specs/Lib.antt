pub mod Answering
pub mod Preparing
pub mod Grids
