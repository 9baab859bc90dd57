pub mod Keeps
pub mod Traced
pub mod Groups
pub mod Records
pub mod Cases
