pub mod Classes
pub mod Limited
pub mod Texts
pub mod Places
