-- Lemmas about scanning a text: leading bytes, runs and character boundaries.
pub mod Prefixes
pub mod Starts
pub mod CommonFronts
pub mod UnescapedRuns
pub mod LaneMasks
pub mod WhiteSpace
pub mod AppendedRuns
pub mod MaskedRuns
pub mod SpecialMasks
pub mod CharBoundaries
pub mod Options
pub mod LinesAndColumns
