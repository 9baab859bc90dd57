pub mod Loops
pub mod Hiding
pub mod Shortening
pub mod Shortened
