pub mod Fresh
pub mod Pages
pub mod Ranges
pub mod Kept
pub mod LaidOut
pub mod Around
pub mod Offsets
