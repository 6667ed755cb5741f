pub mod Forest
pub mod Edits
pub mod Links
pub mod Answers
pub mod Lends
pub mod Documents
