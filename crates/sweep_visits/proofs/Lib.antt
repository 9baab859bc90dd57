pub mod Cases
pub mod Parting
pub mod Visiting
pub mod VisitKeeps
pub mod Fates
