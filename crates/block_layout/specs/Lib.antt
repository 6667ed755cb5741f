pub mod Seen
pub mod Ranges
pub mod Around
pub mod Trees
pub mod Counts
pub mod Held
pub mod Filling
pub mod Far
