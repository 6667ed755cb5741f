pub mod Folds
pub mod Lines
pub mod Walk
mod ListedLoops
mod Standing
pub mod Waiting
mod Effects
mod Depths
mod Found
pub mod Bounded
mod TasksAtRest
pub mod Loops
mod ExactLoops
