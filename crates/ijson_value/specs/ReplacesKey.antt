-- The result and the effect of `replace_key`.
use Rattle.std.specs.Prelude.{◌≡◌, ◌≢◌, ℕ, List, Result, Ok, Err, None, IsSome}
use Rattle.ijson_table.specs.Store.{at}
use Rattle.ijson_value.specs.AtKey.{renamed_key}
use Rattle.ijson_value.specs.declared.object.edits.RefusedReplacement.{RefusedReplacement}
use Rattle.ijson_value.specs.declared.object.edits.RefusedReplacement.TheVariants.{Missing, Exists}

-- Holds if replacing the key `from` by `to` in `pairs` can have the given result and leave
-- `pairs'`. If `from` is missing or another entry has `to`, the result is an error that returns
-- `to`, and the entries are unchanged.
-- e.g. c for b in a:1, b:2 returns b; c for d returns `Missing` with c, and a for b returns
-- `Exists` with a.
abbrev pub ReplacesKey : {V : Type 0} → List (List ℕ × V) → List ℕ → List ℕ → Result (List ℕ) RefusedReplacement
    → List (List ℕ × V) → Type 0
ReplacesKey pairs from to (Ok was) pairs' =
    (was ≡ from) × IsSome (at pairs from) × (pairs' ≡ renamed_key from to pairs)
ReplacesKey pairs from to (Err (Missing key)) pairs' = (key ≡ to) × (at pairs from ≡ None) × (pairs' ≡ pairs)
ReplacesKey pairs from to (Err (Exists key)) pairs' =
    (key ≡ to) × (to ≢ from) × IsSome (at pairs from) × IsSome (at pairs to) × (pairs' ≡ pairs)
