pub mod EntryLemmas
pub mod NameLemmas
pub mod ReadLemmas
pub mod SameLemmas
pub mod TextLemmas
