pub mod NamedLines
pub mod Turning
pub mod SideBySide
pub mod PagesAsked
mod Feeding
