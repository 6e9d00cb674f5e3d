-- The model of an array: its elements and its capacity.
use Rattle.std.specs.Prelude.{ℕ, List}
use Rattle.ijson_value.specs.WellFormed.{WellFormed}

-- e.g. `[null,false]` at capacity 4.
pub record Sequence : Type 0 where
  pub items : List WellFormed
  pub capacity : ℕ
