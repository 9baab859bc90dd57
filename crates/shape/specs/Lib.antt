pub mod Shape
pub mod Row
pub mod Decision
