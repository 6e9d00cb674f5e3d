pub mod Called
pub mod EmptySlice
pub mod Kinds
pub mod LentLaws
pub mod LentOn
pub mod PartCalled
pub mod Steps
pub mod Variants
