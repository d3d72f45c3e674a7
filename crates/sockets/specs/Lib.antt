pub mod Sockets
pub mod Warnings
