pub mod Windows
pub mod Places
pub mod Segments
pub mod Lists
pub mod Sends
pub mod Clears
