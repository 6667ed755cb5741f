pub mod Puts
pub mod Lists
pub mod Listing
pub mod Keeping
pub mod Offsets
