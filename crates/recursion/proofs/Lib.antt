pub mod Turning
pub mod Cell
pub mod Inflows
