pub mod Lists
pub mod Cells
pub mod Numbers
pub mod Passed
pub mod Refused
