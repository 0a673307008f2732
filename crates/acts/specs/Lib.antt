pub mod Acts
pub mod Decide
