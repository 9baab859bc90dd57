pub mod Body
pub mod Grammar
pub mod Violations
