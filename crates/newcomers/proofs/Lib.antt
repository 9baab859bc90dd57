pub mod Kept
pub mod Right
pub mod Lists
pub mod AsSweep
pub mod Examples
