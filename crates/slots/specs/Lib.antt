pub mod Kept
pub mod Key
pub mod KeyLaws
pub mod Lookup
pub mod Maps
pub mod Row
pub mod Slots
pub mod Used
