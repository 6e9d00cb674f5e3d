pub mod Pointer
pub mod LendsNamedValue
pub mod LendsResolved
pub mod Sorted
pub mod Canonical
pub mod OneCanonicalText
pub mod MergePatch
pub mod private
