pub mod Lent
pub mod Moves
pub mod Walks
pub mod Grids
