pub mod Painting
pub mod Hits
pub mod Clips
