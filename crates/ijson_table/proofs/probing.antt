pub mod CrowdBound
pub mod FirstPairs
pub mod KeyHashes
pub mod KeyTests
pub mod LookCount
pub mod ProbeEnds
pub mod ProbePath
pub mod StepsByEnd
