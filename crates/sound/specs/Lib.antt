pub mod Formula
pub mod Sweep
pub mod Kept
