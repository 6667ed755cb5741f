pub mod Pending
pub mod Positions
pub mod Ranges
pub mod Held
pub mod Seen
