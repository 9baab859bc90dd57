pub mod Groups
pub mod Forward
pub mod Steps
