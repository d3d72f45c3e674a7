pub mod Alone
pub mod Batch
pub mod Headline
pub mod Start
pub mod StepsAs
pub mod World
