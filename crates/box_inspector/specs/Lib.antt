pub mod Boxes
pub mod Clips
pub mod BoxText
pub mod Ranges
