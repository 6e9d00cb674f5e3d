-- The possible ends of a lookup.
use Rattle.std.specs.Prelude.{◌≡◌, ℕ, ◌<◌, Bool, List, [], ◌∷◌, ◌++◌, length, get_or, Option, Some, None}
use Rattle.std.specs.Str.{bytes_eq}
use Rattle.ijson_table.specs.declared.index.probe.Probed.{Probed}
use Rattle.ijson_table.specs.declared.index.probe.Probed.TheVariants.{Found, Vacant, Full}
use Rattle.ijson_table.specs.Store.{position_of}
use Rattle.ijson_table.specs.private.Holds.{HasEmpty, MayStand}

-- Returns `true` if the key at index `i` is `key`.
abbrev pub is_key : List (List ℕ) → List ℕ → ℕ → Bool
is_key keys key i = bytes_eq (get_or keys i []) key

-- The index that a probe found, or `None`.
abbrev pub found_at : Probed → Option ℕ
found_at (Found at p) = Some at
found_at (Vacant p) = None
found_at Full = None

-- Holds if the lookup of `key` may end this way. `Found` means that `key` is at index `at`.
-- `Vacant` means that `key` is missing and may be inserted as the last key at slot `p`. `Full`
-- means that `key` is missing and no slot is empty.
abbrev pub LookUpEnds : List ℕ → List (List ℕ) → List (Option ℕ) → ℕ → List ℕ → Probed → Type 0
LookUpEnds hashes keys slots hash key (Found at p) = position_of keys key ≡ Some at
LookUpEnds hashes keys slots hash key (Vacant p) =
    (position_of keys key ≡ None) × (p < length slots) × MayStand (hashes ++ hash ∷ []) slots (length hashes) p
LookUpEnds hashes keys slots hash key Full = (position_of keys key ≡ None) × (HasEmpty slots → ⊥)
