pub mod Leading
pub mod Parts
pub mod Leaving
pub mod Seen
pub mod Moving
pub mod Worlds
