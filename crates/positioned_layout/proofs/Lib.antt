pub mod Numbers
pub mod Nodes
pub mod Holding
pub mod Placing
pub mod Walking
pub mod Opening
pub mod Closing
