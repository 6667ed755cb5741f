pub mod ChainSample
pub mod Sample
