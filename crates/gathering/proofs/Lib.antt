pub mod Tributaries
pub mod Following
pub mod Listing
pub mod Exchanging
pub mod Reaching
pub mod Gathering
