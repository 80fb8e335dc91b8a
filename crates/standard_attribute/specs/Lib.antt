pub mod Differences
pub mod SameNumbers
pub mod Same
pub mod ReadValues
