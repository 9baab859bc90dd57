pub mod Steps
pub mod Laying
pub mod Fill
pub mod Emptying
pub mod Sizes
pub mod Cases
