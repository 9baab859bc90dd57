pub mod Decide
pub mod Lists
pub mod Bytes
