pub mod Bytes
pub mod Fitting
pub mod Lines
pub mod Pieces
pub mod Safe
pub mod Emptied
pub mod Sentences
