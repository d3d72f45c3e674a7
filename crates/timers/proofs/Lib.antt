pub mod DeadlineLemmas
pub mod RowLemmas
pub mod TreeLemmas
