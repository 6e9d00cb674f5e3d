pub mod Law
pub mod Pointers
pub mod lends
pub mod numbers
pub mod ordering
pub mod patching
pub mod tokens
