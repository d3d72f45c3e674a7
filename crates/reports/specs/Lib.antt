pub mod CircuitLine
pub mod Declined
pub mod Looks
pub mod Once
pub mod Schedule
pub mod Seen
pub mod Used
