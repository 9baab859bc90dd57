pub mod Formed
pub mod Settled
pub mod Visited
