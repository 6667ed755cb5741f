pub mod Observations
pub mod Reports
pub mod Serials
pub mod Documents
pub mod Observers
pub mod Held
pub mod Answers
