pub mod BitLemmas
pub mod WordLemmas
