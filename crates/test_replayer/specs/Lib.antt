pub mod Leads
pub mod Checks
pub mod Passes
pub mod Replays
pub mod Laws
pub mod Unique
