pub mod Splits
pub mod Lengths
pub mod TraceLines
pub mod Judged
pub mod Divided
pub mod Texts
