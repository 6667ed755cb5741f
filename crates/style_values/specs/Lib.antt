pub mod Seen
pub mod Ranges
pub mod Reading
pub mod Properties
pub mod Versions
