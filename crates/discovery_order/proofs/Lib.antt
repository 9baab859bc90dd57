pub mod Sorting
pub mod Merging
