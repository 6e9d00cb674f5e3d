pub mod HashesInSlots
pub mod KeptHashes
pub mod NarrowSlots
pub mod Residents
pub mod SlotChanges
pub mod SlotTables
pub mod StoredSlots
