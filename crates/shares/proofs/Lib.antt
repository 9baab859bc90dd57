pub mod Numbers
pub mod Shares
pub mod Refusals
pub mod Standing
