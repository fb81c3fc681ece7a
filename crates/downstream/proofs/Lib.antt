pub mod Steps
pub mod Flowing
