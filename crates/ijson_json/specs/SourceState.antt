-- The model of a source in memory.
use Rattle.std.specs.Prelude.{ℕ, List}

-- `left` is the remaining bytes, `piece` the maximum number of bytes per call, `until_fault` the
-- number of bytes until every call fails, and `failed` the number of failed calls.
-- e.g. of `[1]`, two bytes per call, failing after two: first `[1`, then a fault, and one failure.
pub record SourceState : Type 0 where
  pub left : List ℕ
  pub piece : ℕ
  pub until_fault : ℕ
  pub failed : ℕ
