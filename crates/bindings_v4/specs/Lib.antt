pub mod Book4
pub mod Decision4
pub mod IsBook4
pub mod Kept4
pub mod Lookup4
pub mod Slots4
pub mod Table4
