pub mod BegunSound
pub mod BegunComplete
pub mod Beside
pub mod FilledLaws
