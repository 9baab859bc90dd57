pub mod Sorted
pub mod Figures
