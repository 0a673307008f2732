pub mod Places
pub mod Trains
pub mod Spare
pub mod Seen
pub mod Sentences
