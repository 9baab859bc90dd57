pub mod Pairs
pub mod Components
