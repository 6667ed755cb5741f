pub mod Asking
pub mod Ready
pub mod Jobs
pub mod Stopped
pub mod Sighting
