pub mod Ranges
pub mod Record
pub mod Track
pub mod Report
