-- The model of a sink in memory.
use Rattle.std.specs.Prelude.{ℕ, List}

-- `got` is the bytes received, `piece` the maximum number of bytes per call, `until_fault` the
-- number of bytes until every call fails, and `failed` the number of failed calls.
-- e.g. a sink that takes two bytes per call got `[1` of `[1]` after one call.
pub record SinkState : Type 0 where
  pub got : List ℕ
  pub piece : ℕ
  pub until_fault : ℕ
  pub failed : ℕ
