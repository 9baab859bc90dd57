pub mod Reasons
pub mod Explain
pub mod Asking
