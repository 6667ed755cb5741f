pub mod PageRuns
pub mod StreamRuns
pub mod Alone
