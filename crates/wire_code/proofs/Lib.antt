pub mod Blanks
pub mod Rows
pub mod Texts
