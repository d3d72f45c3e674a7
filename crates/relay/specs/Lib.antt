pub mod Down
pub mod Down4
pub mod Down6
pub mod Relays
pub mod SentFrame
pub mod Up4
pub mod Up6
