pub mod Addresses6
pub mod ReadBack6
