pub mod Lists
pub mod Starts
