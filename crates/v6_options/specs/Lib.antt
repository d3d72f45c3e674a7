pub mod Codes
pub mod Spelling
pub mod Reading
pub mod Token
pub mod Next
