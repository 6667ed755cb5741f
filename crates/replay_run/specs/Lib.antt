pub mod Replies
pub mod ReaderLaws
