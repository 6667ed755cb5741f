pub mod PageLines
pub mod Pages
pub mod Parts
pub mod Splits
