-- Lemmas about the part of a text that was read so far, from an escape to an array or object.
pub mod Escapes
pub mod StringContent
pub mod Numbers
pub mod ElementLists
pub mod Elements
pub mod ArraysAndObjects
pub mod Members
pub mod Words
pub mod CacheContents
pub mod Gathering
pub mod GatheredTrees
