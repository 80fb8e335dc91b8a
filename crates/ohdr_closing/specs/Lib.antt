pub mod Answers
pub mod Stopping
pub mod Taking
pub mod Closing
