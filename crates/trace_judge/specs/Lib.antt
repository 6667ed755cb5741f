pub mod Lines
pub mod Judging
pub mod Recordings
pub mod Texts
