pub mod Scanning
pub mod Pairs
pub mod Judging
