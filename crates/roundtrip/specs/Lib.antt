pub mod Case
pub mod Plain
