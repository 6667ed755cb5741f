pub mod States
pub mod Seen
pub mod Held
pub mod Walks
pub mod Paths
pub mod Frames
pub mod Places
pub mod Adoption
