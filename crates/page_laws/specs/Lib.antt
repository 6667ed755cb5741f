pub mod Successors
pub mod Later
pub mod Quiet
pub mod Bounds
pub mod Making
pub mod Changed
pub mod Ready
