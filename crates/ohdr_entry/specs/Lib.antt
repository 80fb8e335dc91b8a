pub mod Continuations
pub mod Entries
pub mod Answers
pub mod Facts
pub mod Entered
