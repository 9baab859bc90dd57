pub mod Rules
pub mod Judging
