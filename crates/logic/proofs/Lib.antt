pub mod Tests
pub mod Rounding
pub mod Tables
