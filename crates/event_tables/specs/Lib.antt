pub mod Answers
pub mod Handed
pub mod Seen
pub mod Tables
pub mod Entries
pub mod FrameCallbacks
pub mod Timers
pub mod Tasks
