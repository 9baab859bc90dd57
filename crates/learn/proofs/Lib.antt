pub mod Judging
pub mod Answering
pub mod Entering
pub mod Cases
pub mod Ruled
