pub mod Lengths
pub mod Rects
pub mod Reading
pub mod Texts
