pub mod Rule
pub mod Lengths
