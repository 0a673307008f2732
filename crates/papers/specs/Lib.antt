pub mod Exchanges
pub mod Paper
