pub mod Pending
pub mod Near
pub mod Draining
pub mod Grids
