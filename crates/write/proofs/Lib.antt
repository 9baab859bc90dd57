pub mod Gathering
pub mod Bounds
pub mod Records
pub mod Text
