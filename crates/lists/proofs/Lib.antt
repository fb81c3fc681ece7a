pub mod Lists
pub mod Sums
pub mod Members
pub mod Kept
pub mod Overlaid
pub mod Counts
