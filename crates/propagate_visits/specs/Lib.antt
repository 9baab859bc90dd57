pub mod Visits
pub mod Steps
