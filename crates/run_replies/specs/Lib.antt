pub mod Statuses
pub mod Certificates
pub mod Words
pub mod Replies
pub mod Answers
