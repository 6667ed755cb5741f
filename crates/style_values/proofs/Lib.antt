pub mod Insets
pub mod Named
pub mod Sizes
pub mod Tables
