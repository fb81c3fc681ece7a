pub mod Greatest
pub mod Giving
pub mod Climbing
