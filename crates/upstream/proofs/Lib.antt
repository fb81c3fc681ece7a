pub mod Turning
pub mod Inner
pub mod Entering
