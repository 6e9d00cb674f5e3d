-- Writing the value of an occupied `Entry` keeps its index in bounds.
use Rattle.std.specs.Prelude.{◌≡◌, ◌<◌, ℕ, zero, suc, List, [], ◌∷◌, length}
use Rattle.std.proofs.Common.{subst, sym, ap, refl}
use Rattle.ijson_table.specs.Store.{with_value}
use Rattle.ijson_value.specs.WellFormed.{WellFormed}
use Rattle.ijson_value.specs.declared.object.entry.OccupiedEntry.{OccupiedEntry}

-- Replacing the value at an index keeps the number of entries.
pub length-with_value : {V : Type 0} (pairs : List (List ℕ × V)) (i : ℕ) (w : V) → length (with_value pairs i w) ≡ length pairs
length-with_value [] i w = refl
length-with_value (p ∷ ps) zero w = refl
length-with_value (p ∷ ps) (suc i) w = ap suc (length-with_value ps i w)

-- After the value of an occupied entry is written, its index is in bounds.
pub still_valid : (o : OccupiedEntry) (w : WellFormed) → o.index < length (with_value o.object.now.pairs o.index w)
still_valid o w = subst (λ n. o.index < n) (sym (length-with_value o.object.now.pairs o.index w)) o.valid
