-- Inserting a present key equals replacing the value at the index of the key.
use Rattle.std.proofs.Common.{◌≡◌, ℕ, List, Some, ap, sym, ◌∙◌}
use Rattle.std.specs.Prelude.{slice_get}
use Rattle.ijson_table.specs.Store.{at, lookup, put, with_value}
use Rattle.ijson_table.proofs.pairs.PairsByKey.{lookup-found, put-present}

-- Replacing the value at the index of `key` equals inserting `key`, and the old value is the result
-- of looking up `key`.
pub replaced : {V : Type 0} (before after : List (List ℕ × V)) (position : ℕ) (pair : List ℕ × V) (key : List ℕ) (value old : V)
    → slice_get before position ≡ Some pair → old ≡ pair.1 → after ≡ with_value before position value → at before key ≡ Some position
    → (lookup key before ≡ Some old) × (after ≡ put before key value)
replaced before after position pair key value old there is now found = (
  lookup-found before key position pair found there ∙ ap Some (sym is),
  now ∙ sym (put-present before position key value found),
)
