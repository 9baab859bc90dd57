pub mod Propagate
pub mod Steps
pub mod Listed
