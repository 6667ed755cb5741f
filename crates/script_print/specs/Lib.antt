pub mod Spaced
pub mod OperandParts
pub mod LastNumber
pub mod Minus
pub mod Ended
pub mod Actions
