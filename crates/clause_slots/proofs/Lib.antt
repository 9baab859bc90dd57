pub mod Mapping
pub mod Clause
