pub mod Headers
pub mod Facts
pub mod HeaderLaws
pub mod Passing
pub mod Begun
pub mod BegunLaws
