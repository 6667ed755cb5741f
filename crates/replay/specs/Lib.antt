pub mod Gathered
pub mod Starts
