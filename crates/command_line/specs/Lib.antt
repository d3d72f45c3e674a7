pub mod CommandLine
pub mod StandardStreams
pub mod Status
