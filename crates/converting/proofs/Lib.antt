pub mod Rewriting
pub mod Converted
