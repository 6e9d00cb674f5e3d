pub mod Mapped
pub mod Recursion
