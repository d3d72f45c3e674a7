pub mod Agent
pub mod Header
pub mod Layout
pub mod Read
pub mod Reading
pub mod Spelling
pub mod Written
