pub mod Change
pub mod Line
pub mod Look
pub mod Told
