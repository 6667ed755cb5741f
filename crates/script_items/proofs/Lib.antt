pub mod Playing
pub mod Stopped
pub mod Stopping
mod Ready
