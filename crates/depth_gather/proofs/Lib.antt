pub mod Places
pub mod Changes
pub mod Gatherings
pub mod Reported
pub mod Passing
