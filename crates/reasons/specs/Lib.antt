pub mod Reasons
pub mod Explained
pub mod Refused
pub mod LastStamp
