pub mod Checking
pub mod Moving
pub mod Places
pub mod Keeping
pub mod Kept
pub mod Returning
