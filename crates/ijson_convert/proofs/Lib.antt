pub mod Interning
pub mod Pushing
pub mod Refusals
pub mod Whole
pub mod pairs
pub mod reading
pub mod serde_trees
