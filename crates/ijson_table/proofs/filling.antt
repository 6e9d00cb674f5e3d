pub mod FilledSlots
pub mod Spots
