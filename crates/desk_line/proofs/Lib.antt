pub mod Sentences
pub mod Safe
