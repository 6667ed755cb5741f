pub mod Ranks
pub mod Ranges
pub mod Scenes
pub mod Documents
pub mod Found
