pub mod Refusals
pub mod RefusalLaws
pub mod Defaults
pub mod Numbers
pub mod Elements
