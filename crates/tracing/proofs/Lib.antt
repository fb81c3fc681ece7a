pub mod Filled
pub mod Searching
pub mod Noted
pub mod Deciding
