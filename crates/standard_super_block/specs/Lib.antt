pub mod Same
pub mod ReadSuperblocks
pub mod Is
pub mod AcceptedAs
