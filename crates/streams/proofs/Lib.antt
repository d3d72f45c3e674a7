pub mod AheadLemmas
pub mod CutLemmas
pub mod ReadLemmas
pub mod WriteLemmas
