pub mod Trees
pub mod Seen
pub mod Measured
pub mod Along
pub mod Walked
