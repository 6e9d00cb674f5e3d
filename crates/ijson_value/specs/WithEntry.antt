-- The object and the `Entry` after a value is written through the `Entry`.
use Rattle.std.specs.Prelude.{◌≡◌, ℕ, List, [], ◌∷◌, ◌++◌}
use Rattle.ijson_table.specs.Store.{Store, put}
use Rattle.ijson_table.specs.StoreWithValue.{store_with_value}
use Rattle.ijson_table.proofs.pairs.PairsByKey.{distinct_pushed}
use Rattle.ijson_value.specs.WellFormed.{WellFormed}
use Rattle.ijson_value.specs.declared.object.entry.Entry.{Entry}
use Rattle.ijson_value.specs.declared.object.entry.Entry.TheVariants.{Occupied, Vacant}
use Rattle.ijson_value.specs.declared.object.entry.OccupiedEntry.{OccupiedEntry}
use Rattle.ijson_value.specs.laws.EntryValid.{still_valid}

-- The object of the `Entry` with `w` as the value of the key. A missing key is appended.
abbrev pub with_entry : Entry → WellFormed → Store WellFormed
with_entry (Occupied o) w = store_with_value o.object.now o.index w
with_entry (Vacant v) w = record {
  pairs = v.object.now.pairs ++ (v.key, w) ∷ [];
  capacity = v.object.now.capacity;
  distinct = distinct_pushed v.object.now.pairs v.key w v.object.now.distinct v.missing;
}

-- Holds if writing any value through the `Entry` has the same effect as putting the value at `key`.
abbrev pub PutsThrough : List (List ℕ × WellFormed) → List ℕ → Entry → Type 0
PutsThrough pairs key e = (w : WellFormed) → (with_entry e w).pairs ≡ put pairs key w

-- The occupied entry `o` with `w` as its value.
-- e.g. `or_insert(1)` at a of the empty object, and then 2 written there, leaves a:2.
abbrev pub with_entry_value : OccupiedEntry → WellFormed → OccupiedEntry
with_entry_value o w = record {
  object = record o.object { now = store_with_value o.object.now o.index w };
  index = o.index;
  valid = still_valid o w;
}
