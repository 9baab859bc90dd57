pub mod Swept
pub mod Graph
pub mod Whole
pub mod Between
pub mod Kept
pub mod Records
pub mod Cases
