pub mod Refused
pub mod RefusedWith
pub mod Next
pub mod NextWith
pub mod Texts
