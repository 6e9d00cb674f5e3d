pub mod Longer
pub mod Texts
