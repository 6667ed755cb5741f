pub mod LoopHandlers
pub mod Verdicts
pub mod Seen
pub mod Searches
pub mod Marks
pub mod RunLoops
pub mod Promises
pub mod Examples
