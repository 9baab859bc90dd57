pub mod Cases
pub mod Booleans
pub mod Lists
pub mod Searches
