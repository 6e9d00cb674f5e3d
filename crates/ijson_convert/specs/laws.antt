pub mod Complete
pub mod Integers
pub mod Whole
