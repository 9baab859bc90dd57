pub mod Judging
pub mod Programmes
pub mod Cases
