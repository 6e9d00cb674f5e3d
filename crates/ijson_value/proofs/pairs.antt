pub mod Entries
pub mod Given
pub mod Inserted
pub mod PairLookups
pub mod PutInTurn
pub mod PutInside
pub mod Retained
pub mod SamePairs
