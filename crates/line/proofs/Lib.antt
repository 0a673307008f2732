pub mod Steps
pub mod Rules
pub mod Rights
pub mod Stays
pub mod Showing
pub mod Previews
