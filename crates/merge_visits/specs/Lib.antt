pub mod Clause
pub mod Visits
