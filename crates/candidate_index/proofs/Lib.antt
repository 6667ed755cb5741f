pub mod Leaving
pub mod Places
pub mod Asking
pub mod Keeping
pub mod Looking
pub mod Same
pub mod Worlds
pub mod Found
