pub mod Backward
pub mod Copying
pub mod Walking
pub mod Graphing
