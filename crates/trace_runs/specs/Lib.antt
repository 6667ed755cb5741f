pub mod Flows
pub mod Writes
pub mod Runs
