-- A table after the value at an index is replaced.
use Rattle.std.specs.Prelude.{ℕ}
use Rattle.ijson_table.specs.Placed.{Placed}
use Rattle.ijson_table.specs.StoreWithValue.{store_with_value}

-- The table `t` with `value` at index `i`. The keys, the capacity and the slots are unchanged.
-- e.g. 5 at index 1 of a:1, b:2 leaves a:1, b:5 and the same slots.
abbrev pub placed_with_value : {V : Type 0} → Placed V → ℕ → V → Placed V
placed_with_value t i value = record { store = store_with_value t.store i value; slots = t.slots }
