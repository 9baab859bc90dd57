pub mod Comparing
pub mod Cases
