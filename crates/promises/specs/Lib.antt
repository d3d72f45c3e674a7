pub mod Books
pub mod Elsewhere
pub mod ExampleDisk
pub mod Examples
pub mod Examples6
pub mod Granted
