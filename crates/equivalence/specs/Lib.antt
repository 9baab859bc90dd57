pub mod Equivalent
pub mod Returns
