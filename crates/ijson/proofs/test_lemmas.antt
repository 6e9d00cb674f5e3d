pub mod Kept
pub mod LentPart
pub mod PutInside
pub mod TurnedParts
