pub mod KindsApart
pub mod OrderSteps
pub mod SameSteps
