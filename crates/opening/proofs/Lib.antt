pub mod FormatLemmas
pub mod OpeningLemmas
