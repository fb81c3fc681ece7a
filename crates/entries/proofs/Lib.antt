pub mod Accumulated
