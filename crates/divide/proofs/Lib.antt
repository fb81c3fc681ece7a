pub mod Beside
pub mod Outside
pub mod Changing
pub mod Noting
pub mod Gathered
