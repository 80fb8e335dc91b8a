pub mod Sources
pub mod Code
pub mod Loop
pub mod Entering
pub mod Heading
