pub mod Consist
pub mod Sentences
pub mod Rules
