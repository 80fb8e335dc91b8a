pub mod Attributes
pub mod Facts
pub mod Without
