pub mod Columns
pub mod Slots
pub mod Intervals
