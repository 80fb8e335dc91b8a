pub mod Members
pub mod Facts
