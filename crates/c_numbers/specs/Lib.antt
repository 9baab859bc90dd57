pub mod StateNumbers
pub mod CCalls
pub mod WindowCalls
