pub mod Short
pub mod Refused
pub mod Recorded
pub mod Spanned
pub mod Ran
