pub mod Seen
pub mod Ranges
pub mod Fields
pub mod Kinds
pub mod Reading
pub mod Views
