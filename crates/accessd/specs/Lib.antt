pub mod Served
pub mod Serving
pub mod Status
pub mod Words
