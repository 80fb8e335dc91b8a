pub mod Words
pub mod Laws
pub mod Handed
pub mod Unique
pub mod Told
