pub mod Learn
pub mod Ready
