pub mod Messages
pub mod Laws
