mod Answered
mod Places
mod Blocks
mod Growing
mod Handlers
pub mod Telling
pub mod Held
