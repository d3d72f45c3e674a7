pub mod Deadlines
pub mod Layout
pub mod Rows
pub mod Tree
