pub mod Names
pub mod Facts
pub mod Unique
pub mod Samples
