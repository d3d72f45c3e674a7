pub mod RefusedLemmas
pub mod RelayLemmas
pub mod ServiceAddressLemmas
pub mod WarningLemmas
