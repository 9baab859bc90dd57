pub mod Literals
pub mod Clauses
pub mod Assignments
pub mod Holding
pub mod Ranged
