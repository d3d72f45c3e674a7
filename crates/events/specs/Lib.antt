pub mod Batch
pub mod Seen
pub mod Stray
