pub mod Parts
pub mod Sides
pub mod Roots
pub mod Areas
pub mod Faults
