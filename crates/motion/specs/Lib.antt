pub mod Motion
pub mod Orders
pub mod Count
pub mod Bounds
pub mod Starred
