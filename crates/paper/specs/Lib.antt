pub mod Clauses
pub mod Records
pub mod Edges
pub mod Figure1
pub mod Stamping
pub mod Sweeping
pub mod Chains
pub mod Comparing
