pub mod Cases
pub mod ReadBack
pub mod LoadBack
pub mod Plain
pub mod Written
pub mod Reread
