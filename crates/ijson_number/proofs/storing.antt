pub mod FormCases
pub mod FormNumbers
pub mod IntegerWords
pub mod BlockDigits
pub mod Significands
pub mod WholeValues
pub mod EqualWords
