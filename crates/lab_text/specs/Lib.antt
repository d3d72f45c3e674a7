pub mod Fields
pub mod FieldsAfter
pub mod Line
pub mod ParsedLine
