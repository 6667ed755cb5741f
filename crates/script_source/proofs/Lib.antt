pub mod Reading
pub mod FirstBytes
