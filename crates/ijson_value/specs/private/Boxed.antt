-- The content that the heap pointer of an array or an object points to. The pointer is `None` until
-- the first allocation.
use Rattle.std.specs.Prelude.{ℕ, List, [], Option, Some, None, vec_capacity}
use Rattle.std.specs.declared.boxed.Box.{Box}
use Rattle.std.specs.declared.vec.Vec.{Vec}
use Rattle.ijson_table.specs.Store.{Store}
use Rattle.ijson_table.specs.Placed.{Placed}

module _ {V A B : Type 0} where
  -- The elements of the list, or an empty list if nothing is allocated.
  abbrev pub list_items : Option (Box (Vec V A) B) → List V
  list_items None = []
  list_items (Some list) = list.value.items

  -- The capacity of the list, or 0 if nothing is allocated.
  abbrev pub list_capacity : Option (Box (Vec V A) B) → ℕ
  list_capacity None = 0
  list_capacity (Some list) = vec_capacity list.value

-- The entries and the capacity of the table. If nothing is allocated, the capacity is 0.
abbrev pub table_store : {V A : Type 0} → Option (Box (Placed V) A) → Store V
table_store None = record { pairs = []; capacity = 0; distinct = tt }
table_store (Some table) = table.value.store
