pub mod Writing
pub mod Judging
pub mod Accepted
