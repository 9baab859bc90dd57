pub mod Over
pub mod StateBack
pub mod WindowBack
pub mod Reading
pub mod Answered
pub mod Calling
pub mod CallingWith
pub mod Cases
