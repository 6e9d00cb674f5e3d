-- Slots with the indices of the first entries of a list.
use Rattle.std.specs.Prelude.{◌≢◌, ℕ, List, [], None, get_or, map, take}
use Rattle.ijson_table.specs.declared.slot.Slot.{Slot}
use Rattle.ijson_table.specs.Store.{at, keys_of, IsDistinct}
use Rattle.ijson_table.specs.private.Insertion.{IsTableOf}

-- Holds if the first `n` keys are distinct and the slots are a table of these keys.
pub record FirstPlaced {V : Type 0} (hash : List ℕ → ℕ) (pairs : List (List ℕ × V)) (n : ℕ) (slots : List Slot) : Type 0 where
  pub table : IsTableOf (map hash (keys_of (take n pairs))) slots
  pub distinct : IsDistinct (keys_of (take n pairs))

-- Holds if the key at index `n` repeats the key at an earlier index.
abbrev pub ComesAgain : {V : Type 0} → List (List ℕ × V) → ℕ → Type 0
ComesAgain pairs n = at (take n pairs) (get_or (keys_of pairs) n []) ≢ None
