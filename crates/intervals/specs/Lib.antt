pub mod Intervals
pub mod Relations
