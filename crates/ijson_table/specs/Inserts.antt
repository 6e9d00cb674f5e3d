-- The result and the effect of an insertion.
use Rattle.std.specs.Prelude.{◌≡◌, ℕ, List, length, Option, Some, None, Result, Ok, Err}
use Rattle.ijson_table.specs.declared.store.RefusedPair.{RefusedPair}
use Rattle.ijson_table.specs.Store.{lookup, put}
use Rattle.ijson_table.specs.Growth.{Grown, Ungrown}

-- Holds if inserting `key` and `value` can have this result and end with `pairs'` and `c'`. If
-- `key` is present, its value is replaced and the capacity is unchanged. Otherwise, the store grows
-- if needed, and the entry is appended. If the growth fails, the entry is returned and the store is
-- unchanged.
-- e.g. `a` into a full store that has it returns the old value; `e` into a, b, c, d at capacity 4,
-- if memory runs out, comes back with its value.
abbrev pub Inserts : {V : Type 0} → List (List ℕ × V) → ℕ → List ℕ → V → Result (Option V) (RefusedPair V)
    → List (List ℕ × V) → ℕ → Type 0
Inserts pairs c key value (Ok (Some old)) pairs' c' =
    (lookup key pairs ≡ Some old) × (pairs' ≡ put pairs key value) × (c' ≡ c)
Inserts pairs c key value (Ok None) pairs' c' =
    (lookup key pairs ≡ None) × (pairs' ≡ put pairs key value) × Grown (length pairs) c 1 c'
Inserts pairs c key value (Err refused) pairs' c' =
    (lookup key pairs ≡ None) × (refused.key ≡ key) × (refused.value ≡ value)
    × (pairs' ≡ pairs) × Ungrown (length pairs) c 1 refused.why c'
