pub mod Relay4Lemmas
pub mod Relay6Lemmas
pub mod RelaysLemmas
pub mod AllLemmas
