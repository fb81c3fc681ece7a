pub mod Lent
pub mod Equation
pub mod Grids
