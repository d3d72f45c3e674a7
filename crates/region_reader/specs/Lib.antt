pub mod CircuitSlots
pub mod Steady
