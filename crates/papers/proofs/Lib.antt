pub mod Ran
pub mod Paper
