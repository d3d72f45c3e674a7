pub mod Book6
pub mod Decision6
pub mod IsBook6
pub mod Kept6
pub mod Lookup6
pub mod Slots6
pub mod Table6
