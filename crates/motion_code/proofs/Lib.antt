pub mod Rules
pub mod Summing
