-- Lemmas about the error of a text: where a value or a character may begin, and what can follow.
pub mod ListParts
pub mod Overlaps
pub mod Places
pub mod LimitErrors
pub mod EarlierLimits
pub mod Completions
pub mod CharacterPlaces
pub mod Closings
pub mod OneError
pub mod AllowedErrors
