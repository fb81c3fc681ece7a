pub mod Parts
pub mod AllOutlets
pub mod Cases
