pub mod Same
pub mod Is
pub mod Differences
pub mod HeaderIs
pub mod ReadHeaders
pub mod AcceptedAs
