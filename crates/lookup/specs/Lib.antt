pub mod Lookup
pub mod Facts
pub mod Unique
pub mod Samples
