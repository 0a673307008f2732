pub mod Decide
pub mod Step
pub mod Preview
