pub mod Comparing
pub mod Wider
pub mod Cases
