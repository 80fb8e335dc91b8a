pub mod Differences
pub mod Same
pub mod ReadMessages
