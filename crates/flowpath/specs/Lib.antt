pub mod FlowPath
pub mod Measuring
pub mod Cells
pub mod Grids
