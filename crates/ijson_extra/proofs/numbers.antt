pub mod Numbers
pub mod Renumbered
