pub mod Hidden
pub mod Failed
