pub mod Demand3
pub mod Input
pub mod Session
