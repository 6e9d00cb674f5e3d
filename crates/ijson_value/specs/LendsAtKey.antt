-- Clauses for functions that return a mutable reference to the value of a key of an object.
use Rattle.std.specs.Prelude.{◌≡◌, ℕ, List, Option, Some, None, Result, length}
use Rattle.std.specs.Borrow.{Lends, LendsIf, LendsSoOk, MutBor, Fml}
use Rattle.ijson_table.specs.Growth.{Grown}
use Rattle.ijson_table.specs.Store.{Store, at, put}
use Rattle.ijson_table.specs.StoreWithValue.{store_with_value}
use Rattle.ijson_value.specs.WellFormed.{WellFormed}
use Rattle.ijson_value.specs.contracts.object.map.IObject as object
use Rattle.ijson_value.specs.contracts.value.IValue as value

-- The object with `w` as the value at the index, or unchanged if the index is `None`.
abbrev pub with_found : Store WellFormed → Option ℕ → WellFormed → Store WellFormed
with_found s None w = s
with_found s (Some i) w = store_with_value s i w

-- The object with `w` as the value of `key`, or unchanged if `key` is missing.
abbrev pub with_key : Store WellFormed → List ℕ → WellFormed → Store WellFormed
with_key s key w = with_found s (at s.pairs key) w

-- Holds if writing through `r` sets the value of `key` in `s` and changes nothing else.
abbrev pub LendsAtKey : MutBor (Store WellFormed) → List ℕ → MutBor WellFormed → Fml
LendsAtKey s key r = Lends object.the_row value.the_row s r (with_key s.now key)

-- Holds if writing through `r` sets the value of `key` in `s`, or if `r` is `None` and `s` is
-- unchanged.
-- e.g. 5 written at b of a:1, b:2 leaves a:1, b:5; at c nothing is lent.
abbrev pub LendsAtKeyIf : MutBor (Store WellFormed) → List ℕ → Option (MutBor WellFormed) → Fml
LendsAtKeyIf s key r = LendsIf object.the_row value.the_row s r (with_key s.now key) s.now

-- Holds if `c'` is the capacity after a put. An existing key leaves the capacity `c` unchanged; a
-- missing key requires capacity for one more entry.
abbrev pub GrownAt : Option ℕ → ℕ → ℕ → ℕ → Type 0
GrownAt (Some i) len c c' = c' ≡ c
GrownAt None len c c' = Grown len c 1 c'

-- Holds if `n` is the object `s` after `w` is put at `key`. The capacity grows only if `key` is
-- missing.
abbrev pub IsPut : Store WellFormed → List ℕ → WellFormed → Store WellFormed → Type 0
IsPut s key w n = (n.pairs ≡ put s.pairs key w) × GrownAt (at s.pairs key) (length s.pairs) s.capacity n.capacity

-- Holds if writing through `r` puts the value at `key` in `s`, or if `r` is an error and `s` is
-- unchanged. A missing key is added.
-- e.g. 5 put at e into a, b, c, d at capacity 4 leaves five entries at capacity 8; at a it leaves
-- four at 4.
abbrev pub LendsPut : {E : Type 0} → MutBor (Store WellFormed) → List ℕ → Result (MutBor WellFormed) E → Fml
LendsPut s key r =
    LendsSoOk object.the_row value.the_row s r (λ n w. IsPut s.now key w n)
    (λ n. (n.pairs ≡ s.now.pairs) × (n.capacity ≡ s.now.capacity))
