pub mod Within
pub mod Kids
pub mod Painted
pub mod Chains
