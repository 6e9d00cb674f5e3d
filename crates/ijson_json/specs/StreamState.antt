-- The model of a device that wraps a reader or a writer.
use Rattle.std.specs.Prelude.{ℕ}

-- The reader or writer is `inner`, and the number of failed calls is `failed`.
-- e.g. a reader that returns an error: one failure.
pub record StreamState (D : Type 0) : Type 0 where
  pub inner : D
  pub failed : ℕ
