pub mod Kinds
pub mod Streams
pub mod Memory
pub mod Edges
pub mod Limits
