pub mod Writes
pub mod Lines
pub mod Runs
pub mod Following
pub mod Loops
pub mod Answered
