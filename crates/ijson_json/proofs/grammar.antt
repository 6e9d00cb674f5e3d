-- Lemmas about the grammar of texts and trees, without the reader.
pub mod FirstBytes
pub mod CommaLists
pub mod ElementShapes
pub mod OneTree
pub mod Insides
pub mod SpelledTrees
pub mod PrintedIsAccepted
pub mod SettlesToItself
pub mod TotalReads
pub mod StringBodies
pub mod AcceptedDepth
