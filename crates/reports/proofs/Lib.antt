pub mod CircuitLineLemmas
pub mod LawLemmas
