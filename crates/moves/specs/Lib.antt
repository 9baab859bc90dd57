pub mod Core
pub mod Moves
