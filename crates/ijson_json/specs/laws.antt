-- Definitions that only the models of types use.
pub mod StreamStateCode
