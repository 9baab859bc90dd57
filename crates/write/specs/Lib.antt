pub mod Write
pub mod Writable
pub mod Gathered
pub mod Printable
