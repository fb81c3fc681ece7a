pub mod Accumulated
pub mod Subaccumulated
