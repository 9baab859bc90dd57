pub mod Linking
pub mod Pending
