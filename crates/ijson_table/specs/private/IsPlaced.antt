-- The invariant of a table.
use Rattle.std.specs.Prelude.{◌≡◌, ℕ, List, map, length}
use Rattle.ijson_table.specs.declared.slot.Slot.{Slot}
use Rattle.ijson_table.specs.Store.{keys_of}
use Rattle.ijson_table.specs.Crowd.{slot_count}
use Rattle.ijson_table.specs.private.Insertion.{IsTableOf}
use Rattle.ijson_table.specs.private.Room.{HasRoom}

-- Holds if the entries fit the capacity, and the slots are a table of their keys. The number of
-- slots is `slot_count capacity`.
pub record IsPlaced {V : Type 0} (hash : List ℕ → ℕ) (pairs : List (List ℕ × V)) (capacity : ℕ) (slots : List Slot) : Type 0 where
  pub room : HasRoom (length pairs) capacity
  pub table : IsTableOf (map hash (keys_of pairs)) slots
  pub size : length slots ≡ slot_count capacity
