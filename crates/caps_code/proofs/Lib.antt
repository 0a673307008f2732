pub mod Rules
pub mod Trials
