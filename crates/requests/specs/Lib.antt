pub mod Addressee
pub mod Addressee4
pub mod Addressee6
pub mod NamedCircuit
pub mod RelayedMessage
pub mod Request4
pub mod Request6
