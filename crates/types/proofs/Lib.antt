pub mod Key4Lemmas
pub mod Key6Lemmas
pub mod NumberLemmas
