pub mod Lookup3
pub mod Laws
pub mod Vectors
