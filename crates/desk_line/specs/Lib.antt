pub mod Desk
pub mod Columns
pub mod Demand3
