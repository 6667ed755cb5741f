pub mod Lives
pub mod Engines
