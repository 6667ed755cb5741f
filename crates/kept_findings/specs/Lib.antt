pub mod Held
pub mod Rooms
pub mod Looks
pub mod Walks
pub mod Views
pub mod Registered
pub mod Stale
