pub mod AddresseeLemmas
pub mod LimitLemmas6
pub mod RequestLemmas6
