pub mod Climbing
pub mod Rowed
pub mod Listing
pub mod Descending
