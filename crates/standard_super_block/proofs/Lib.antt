pub mod Ties
pub mod Roots
pub mod Accepts
pub mod Samples
pub mod RootNumbers
