pub mod Contracts
pub mod Reading
pub mod Columns
pub mod Simulated
pub mod Demand3
