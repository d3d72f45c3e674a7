pub mod Exact
pub mod Fronts
pub mod Results
pub mod Steps
pub mod Tokens
