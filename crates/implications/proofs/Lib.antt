pub mod EdgeLists
pub mod Csr
pub mod Counts
pub mod Fill
pub mod Roots
pub mod Implications
pub mod Cases
