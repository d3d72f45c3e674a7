pub mod LeaseLemmas
pub mod LineLemmas
pub mod PoolLemmas
