pub mod Callers
pub mod Rights
