pub mod DataTypes
pub mod Facts
