pub mod Seen
pub mod Places
pub mod Numbers
pub mod Counts
pub mod Reports
pub mod Telling
pub mod Rising
pub mod Kept
