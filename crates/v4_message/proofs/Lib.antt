pub mod Headers
pub mod Decisions
pub mod Exact
pub mod Lengths
