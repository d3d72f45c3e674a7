pub mod BatchLemmas
pub mod BatchOutputLemmas
pub mod CauseLemmas
pub mod LineResultLemmas
pub mod OpeningLemmas
pub mod PreparationLemmas
pub mod RunLemmas
pub mod StartLemmas
