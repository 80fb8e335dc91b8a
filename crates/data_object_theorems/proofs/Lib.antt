pub mod Checksums
pub mod Lookups
pub mod Joint
pub mod JointRoot
