-- Lemmas about the part of a string, an array or an object that was written so far.
pub mod Quoting
pub mod Joined
