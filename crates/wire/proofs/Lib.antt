pub mod Fields
pub mod RoundTrip
pub mod Sentences
pub mod Unique
