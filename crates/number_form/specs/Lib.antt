pub mod Forms
pub mod Sizes
