pub mod Addresses
pub mod Answers
pub mod Facts
