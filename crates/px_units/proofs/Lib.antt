pub mod Rows
pub mod Edges
pub mod Decimals
pub mod Appends
pub mod Meeting
