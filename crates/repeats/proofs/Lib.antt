pub mod Repeats
pub mod First
pub mod Marks
pub mod Keeping
pub mod Removing
pub mod Cases
