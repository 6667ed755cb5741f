pub mod Seen
pub mod Indexed
pub mod Due
pub mod Keys
pub mod Handing
