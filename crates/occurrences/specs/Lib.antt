pub mod Chains
pub mod Pending
