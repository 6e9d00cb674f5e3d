pub mod BackwardShift
pub mod Insertion
pub mod ListShiftOut
pub mod ListSwapRemove
pub mod MovedIndices
pub mod Removal
pub mod SlotWrites
pub mod Vacancy
