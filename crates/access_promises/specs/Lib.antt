pub mod Alone
pub mod Attempts
pub mod Exchanges
pub mod Histories
pub mod Own
pub mod Transactions
pub mod Turns
pub mod Waiting
