pub mod Digits
pub mod LineWords
pub mod Blocks
pub mod WholeText
