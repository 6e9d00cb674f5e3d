-- Definitions that only the contracts of private functions use.
pub mod CompactErrorOfReadFault
pub mod Delimiters
pub mod Reading
pub mod Contexts
pub mod Explains
pub mod ReadsKey
pub mod ReadsScalar
pub mod ReadsValue
pub mod StringReading
