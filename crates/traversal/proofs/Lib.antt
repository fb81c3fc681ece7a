pub mod Traversing
pub mod Moving
pub mod Turning
pub mod Tributaries
