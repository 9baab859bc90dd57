pub mod Failed
pub mod Steps
