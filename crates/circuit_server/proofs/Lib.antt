pub mod AnswerLemmas
pub mod CalledLemmas
pub mod ComeBackLemmas
pub mod DeadlineLemmas
pub mod PreparedLemmas
pub mod SaveLemmas
pub mod SavedLemmas
pub mod ServedLemmas
