pub mod Scanning
pub mod Repeats
pub mod Parting
pub mod Visiting
pub mod VisitKeeps
pub mod Passing
