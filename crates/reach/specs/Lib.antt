pub mod Reach
pub mod Following
