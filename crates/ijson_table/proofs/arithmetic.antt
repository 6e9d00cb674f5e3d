pub mod Circular
pub mod Counting
pub mod FoldSteps
pub mod Reciprocal
