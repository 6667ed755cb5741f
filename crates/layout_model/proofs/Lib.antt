mod Rows
pub mod Paths
mod Handed
pub mod Ancestors
pub mod Holders
pub mod Inputs
mod Caps
mod Sums
pub mod Offsets
pub mod FlatPlaces
pub mod Unpositioned
pub mod Clipped
pub mod Trees
pub mod Farthest
pub mod Orders
pub mod Reaches
pub mod Attained
mod Limits
