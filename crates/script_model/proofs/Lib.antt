mod LineScan
pub mod Runs
mod LineWords
mod LineLaw
mod LineNumbers
pub mod LineEnds
mod Spaces
pub mod Impossible
mod ReadLater
mod ReadLaw
pub mod LimitsMet
pub mod Named
pub mod Keyed
