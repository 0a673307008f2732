pub mod Answers
pub mod Checks
pub mod Sentences
pub mod Examples
