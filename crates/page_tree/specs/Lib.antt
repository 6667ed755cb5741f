pub mod Items
pub mod Views
pub mod Faults
pub mod Steps
pub mod Trees
pub mod Answers
pub mod Changes
