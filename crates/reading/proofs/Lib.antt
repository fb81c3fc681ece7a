pub mod Bytes
pub mod Steps
pub mod Walking
pub mod Judged
pub mod Stores
pub mod Stored
