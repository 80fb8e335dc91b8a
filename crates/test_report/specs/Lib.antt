pub mod Follows
pub mod FollowsLaws
pub mod Report
pub mod Laws
