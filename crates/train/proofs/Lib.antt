pub mod Track
pub mod Records
pub mod Moves
pub mod Usual
pub mod Sentences
pub mod Pending
pub mod Checks
