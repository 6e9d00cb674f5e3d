-- Lemmas: a fault of the reader becomes the error of the whole text (`IsErrorOf`), wherever in the
-- text the reader stops.
pub mod StuckTexts
pub mod StringFaults
pub mod Contexts
pub mod TokenFaults
pub mod ScalarFaults
pub mod KeyFaults
pub mod ElementFaults
pub mod WholeTexts
