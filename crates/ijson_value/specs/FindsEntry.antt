-- The results of `entry` and `entry_or_clone`, and the object after the call.
use Rattle.std.specs.Prelude.{◌≡◌, ◌<◌, ◌⊎◌, ℕ, List, None, IsSome, length}
use Rattle.ijson_table.specs.Growth.{Grown, Ungrown}
use Rattle.ijson_table.specs.Store.{Store, at, lookup}
use Rattle.ijson_table.specs.declared.store.ReserveError.{ReserveError}
use Rattle.ijson_table.specs.declared.store.ReserveError.TheVariants.{Memory}
use Rattle.ijson_value.specs.WellFormed.{WellFormed}
use Rattle.ijson_value.specs.declared.object.entry.Entry.{Entry}
use Rattle.ijson_value.specs.declared.object.entry.Entry.TheVariants.{Occupied, Vacant}

-- Holds if the `Entry` is occupied and `key` exists in the object `old`, or vacant and `key` is
-- missing. An occupied entry leaves the object unchanged. A vacant entry has reserved capacity for
-- one more entry.
abbrev pub FindsEntry : Store WellFormed → List ℕ → Entry → Type 0
FindsEntry old key (Occupied o) = IsSome (at old.pairs key) × (o.object.now ≡ old)
FindsEntry old key (Vacant v) =
    (at old.pairs key ≡ None) × (v.object.now.pairs ≡ old.pairs)
    × Grown (length old.pairs) old.capacity 1 v.object.now.capacity

-- Holds if `key` is missing and reserving capacity for it fails with the error `why`.
abbrev pub FindsNoRoom : Store WellFormed → List ℕ → ReserveError → Type 0
FindsNoRoom old key why = (lookup key old.pairs ≡ None) × Ungrown (length old.pairs) old.capacity 1 why old.capacity

-- Holds if `key` is missing and no `Entry` is created, because reserving capacity fails or because
-- `key` cannot be cloned. Cloning fails only for keys of more than 7 bytes, with the error
-- `Memory`.
-- e.g. b in a:1, b:2 is occupied; e in a, b, c, d at capacity 4 is vacant at capacity 8, or has no
-- entry.
abbrev pub FindsNoRoomOrCopy : Store WellFormed → List ℕ → ReserveError → Type 0
FindsNoRoomOrCopy old key why =
    FindsNoRoom old key why ⊎ ((lookup key old.pairs ≡ None) × (7 < length key) × (why ≡ Memory))
