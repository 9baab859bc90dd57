pub mod Programmes
pub mod States
pub mod Answers
