-- Finding, removing and renaming a key in a list of entries.
use Rattle.std.specs.Prelude.{ℕ, List, Option, Some, None, slice_get, option_and_then}
use Rattle.ijson_table.specs.Store.{at, swap_out, shift_out, with_key}

-- The entry of `key`, or `None` if the key is missing.
-- e.g. in a:1, b:2 the key b has the entry b:2, and c has none.
abbrev pub pair_at_key : {V : Type 0} → List ℕ → List (List ℕ × V) → Option (List ℕ × V)
pair_at_key key pairs = option_and_then (slice_get pairs) (at pairs key)

-- The list that `out` returns for the index, or `pairs` if the index is `None`.
abbrev pub out_at : {X : Type 0} → (List X → ℕ → List X) → Option ℕ → List X → List X
out_at out None pairs = pairs
out_at out (Some i) pairs = out pairs i

-- The entries without `key`. The last entry replaces the removed entry.
abbrev pub swap_out_key : {V : Type 0} → List ℕ → List (List ℕ × V) → List (List ℕ × V)
swap_out_key key pairs = out_at swap_out (at pairs key) pairs

-- The entries without `key`. All entries after the removed entry shift down by one index.
-- e.g. b out of a, b, c, d leaves a, d, c, or a, c, d; e leaves all four.
abbrev pub shift_out_key : {V : Type 0} → List ℕ → List (List ℕ × V) → List (List ℕ × V)
shift_out_key key pairs = out_at shift_out (at pairs key) pairs

-- Replaces the key `from` by `to`, or returns `pairs` if `from` is missing.
-- e.g. c for b in a:1, b:2 gives a:1, c:2; c for d leaves both.
abbrev pub renamed_key : {V : Type 0} → List ℕ → List ℕ → List (List ℕ × V) → List (List ℕ × V)
renamed_key from to pairs = out_at (λ ps i. with_key ps i to) (at pairs from) pairs
