pub mod Lease
pub mod Line
pub mod Listing
pub mod Moment
pub mod Pool
pub mod Row
