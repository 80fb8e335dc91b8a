pub mod Differences
pub mod Same
pub mod ReadTypes
pub mod SampleTypes
