pub mod Children
pub mod NamedParts
pub mod Options
pub mod Positions
pub mod PutBack
pub mod Walked
