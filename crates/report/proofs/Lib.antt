pub mod Refusals
pub mod Starts
pub mod Outlets
pub mod Whole
pub mod FirstBytes
pub mod AfterReading
pub mod Fits
pub mod Example
