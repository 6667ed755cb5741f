pub mod Ranges
pub mod Scenes
pub mod Chains
pub mod Visible
pub mod Worlds
