pub mod Net
pub mod Places
pub mod Ring
pub mod Layout
