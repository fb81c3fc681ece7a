pub mod Marking
pub mod Compared
pub mod Kept
