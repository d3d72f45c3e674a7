pub mod Listing
pub mod Status
pub mod Words
