pub mod Printing
pub mod Stored
