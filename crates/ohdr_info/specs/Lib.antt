pub mod Info
pub mod Facts
