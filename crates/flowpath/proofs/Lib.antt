pub mod Marks
pub mod Walked
pub mod Stepping
pub mod Following
