pub mod NoInteger
pub mod Pushes
