pub mod Address
pub mod EntryCode
pub mod History
pub mod Socket
pub mod Waiting
