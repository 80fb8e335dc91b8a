pub mod DataLayouts
pub mod Facts
