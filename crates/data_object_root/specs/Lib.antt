pub mod Root
pub mod Laws
