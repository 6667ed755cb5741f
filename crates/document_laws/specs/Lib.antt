pub mod Levels
pub mod Insertions
