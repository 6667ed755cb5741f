pub mod Still
pub mod Rounds
pub mod TaskRuns
pub mod Moments
pub mod Uprooting
pub mod WholeLoops
pub mod RunLoops
pub mod Examples
