pub mod Pairing
pub mod Listing
pub mod Chain
