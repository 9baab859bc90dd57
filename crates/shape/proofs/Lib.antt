pub mod Rows
pub mod Listing
pub mod Clausing
pub mod Reading
pub mod Shrinking
pub mod Cases
