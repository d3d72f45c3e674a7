pub mod LineEnd
pub mod Lines
pub mod ReadAhead
pub mod Writing
