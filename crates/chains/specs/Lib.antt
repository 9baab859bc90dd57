pub mod Chains
pub mod Climbing
pub mod Descending
