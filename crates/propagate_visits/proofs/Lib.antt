pub mod Cases
pub mod Scanning
pub mod Parting
pub mod VisitKeeps
pub mod Stepping
pub mod Splitting
pub mod Advancing
