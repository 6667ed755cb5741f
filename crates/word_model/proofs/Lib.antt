pub mod Rows
pub mod Slices
pub mod Digits
pub mod Values
pub mod Forms
pub mod Decimals
pub mod RoundTrip
pub mod Spelled
