pub mod Words
pub mod Blocks
pub mod Handed
pub mod Laws
pub mod Unique
pub mod Samples
