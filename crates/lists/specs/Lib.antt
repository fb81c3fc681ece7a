pub mod Lists
pub mod Slices
