pub mod Links
pub mod Join
pub mod FunctionContracts
