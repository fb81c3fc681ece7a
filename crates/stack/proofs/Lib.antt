pub mod Putting
pub mod Above
pub mod Near
pub mod Climbing
pub mod Entering
pub mod Turning
