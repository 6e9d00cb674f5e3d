-- The effect of inserting a list of entries in order.
use Rattle.std.specs.Prelude.{◌≡◌, ℕ, List, [], ◌∷◌, Option, Ok}
use Rattle.ijson_table.specs.Inserts.{Inserts}

-- Holds if inserting the listed entries in order turns `pairs` with capacity `c` into `pairs'` with
-- capacity `c'`. Every insertion succeeds.
-- e.g. a:1, b:2, a:3 into the empty object: a:3, b:2 at capacity 4.
abbrev pub InsertsEach : {V : Type 0} → List (List ℕ × V) → ℕ → List (List ℕ × V) → List (List ℕ × V) → ℕ → Type 0
InsertsEach pairs c [] pairs' c' = (pairs' ≡ pairs) × (c' ≡ c)
InsertsEach {V} pairs c (pair ∷ added) pairs' c' =
    (old : Option V) × (mid : List (List ℕ × V)) × (d : ℕ) × Inserts pairs c pair.0 pair.1 (Ok old) mid d
    × InsertsEach mid d added pairs' c'
