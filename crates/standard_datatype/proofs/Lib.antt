pub mod Members
pub mod Ties
pub mod TypeReads
pub mod Rules
pub mod Samples
