pub mod Storage
pub mod Facts
