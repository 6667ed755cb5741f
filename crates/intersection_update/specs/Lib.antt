pub mod Watching
pub mod Updating
pub mod Keeping
pub mod Steps
