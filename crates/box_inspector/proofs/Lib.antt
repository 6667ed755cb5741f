pub mod Kids
pub mod Listed
pub mod Chains
pub mod Told
pub mod Texts
pub mod Reaches
