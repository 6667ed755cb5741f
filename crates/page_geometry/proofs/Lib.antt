pub mod Standing
pub mod Levels
pub mod Chains
pub mod Ends
pub mod Scenes
pub mod Moves
pub mod Beginnings
pub mod Found
pub mod Containers
pub mod Ancestors
mod Missing
pub mod Boxes
pub mod Looked
pub mod Viewports
pub mod Scrollers
