pub mod Ready
pub mod Goes
pub mod Turns
pub mod Parts
pub mod Answers
