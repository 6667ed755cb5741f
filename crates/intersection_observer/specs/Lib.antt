pub mod Seen
pub mod Places
pub mod Serials
pub mod Settling
pub mod Watchers
pub mod Answers
pub mod Held
