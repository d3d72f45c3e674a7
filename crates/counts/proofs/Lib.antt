pub mod CountLemmas
pub mod TallyLemmas
