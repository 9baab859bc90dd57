pub mod Orders
pub mod Cases
