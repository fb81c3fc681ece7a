pub mod Filled
pub mod Noted
pub mod Deciding
