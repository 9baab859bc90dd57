pub mod Alike
pub mod Spreading
pub mod Settled
pub mod Cases
