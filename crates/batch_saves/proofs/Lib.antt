pub mod Counting
pub mod Ending
pub mod Going
pub mod Parts
pub mod Passing
pub mod Sharing
pub mod Stepping
pub mod Syncing
