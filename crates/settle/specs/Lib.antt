pub mod Settle
pub mod Own
pub mod Steps
