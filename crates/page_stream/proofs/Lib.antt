pub mod Places
pub mod Held
pub mod Taken
pub mod Bounds
