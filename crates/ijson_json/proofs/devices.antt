-- Lemmas about the known bytes that devices read and write.
pub mod TransferredBytes
