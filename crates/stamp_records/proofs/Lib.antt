pub mod Cases
pub mod Over
pub mod Packed
