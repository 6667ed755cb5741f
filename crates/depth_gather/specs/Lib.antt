pub mod Gathering
pub mod Entries
pub mod Deliveries
pub mod Turning
