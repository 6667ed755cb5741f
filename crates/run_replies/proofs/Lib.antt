pub mod Endings
pub mod Telling
pub mod Summaries
pub mod Written
pub mod CommandCounts
pub mod Taking
mod Worded
