pub mod MergeSteps
pub mod MergedLists
