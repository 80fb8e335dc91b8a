pub mod Values
pub mod Answers
pub mod Facts
pub mod BitFacts
pub mod Kept
pub mod Samples
