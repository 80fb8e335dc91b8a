pub mod DataSpaces
pub mod Answers
pub mod Facts
pub mod Bounds
