pub mod Counting
pub mod Traces
pub mod Rows
