-- A pair store with its hash index.
use Rattle.std.specs.Prelude.{ℕ, List, Option}
use Rattle.ijson_table.specs.Store.{Store}

-- A pair store and the resident of each slot: the index of an entry, or `None`.
-- e.g. the entries a, b, c of home 0 at capacity 3, with the slots 0, 1, 2.
pub record Placed (V : Type 0) : Type 0 where
  pub store : Store V
  pub slots : List (Option ℕ)
