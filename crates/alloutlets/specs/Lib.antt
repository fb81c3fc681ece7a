pub mod AllOutlets
pub mod Part
pub mod Seen
