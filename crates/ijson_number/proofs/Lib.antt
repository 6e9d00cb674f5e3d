pub mod Alike
pub mod Conversions
pub mod BooleanTests
pub mod AnyAnswer
mod WorkedExamples
pub mod comparing
pub mod parsing
pub mod storing
pub mod writing
pub mod Common
