pub mod Ready
pub mod Going
pub mod Called
pub mod Handed
pub mod DueTimers
pub mod FrameTurns
pub mod QueuedTasks
pub mod Named
pub mod Rendering
pub mod Ticking
pub mod Listening
pub mod Firing
pub mod Evaluating
pub mod Scrolling
pub mod Resizing
mod Observers
mod Watchers
mod Notifying
mod Delivered
mod Turns
mod Broadcasts
mod Handing
mod RoundEnds
mod RoundLoops
