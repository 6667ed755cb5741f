pub mod Ranges
pub mod Bases
pub mod Findings
pub mod Registrations
pub mod Asked
pub mod Held
pub mod Codes
pub mod Worlds
