-- Putting the value that a key already has changes nothing. Inserting only into a vacant `Entry`
-- therefore has the effect of putting the existing value, or else the new value.
use Rattle.std.specs.Prelude.{◌≡◌, ℕ, zero, suc, List, [], ◌∷◌, Option, Some, None, get_or, slice_get, IsSome}
use Rattle.std.specs.Option.{unwrap_or}
use Rattle.std.proofs.Common.{refl, sym, ap, ◌∙◌}
use Rattle.std.proofs.lemmas.Option.{slice_get-get_or}
use Rattle.ijson_table.specs.Store.{at, lookup, put, with_value}
use Rattle.ijson_table.proofs.pairs.PairsByKey.{lookup-absent, lookup-found, position_within, put-present}

module _ {V : Type 0} where
  -- Writing the value that is already at the index `i` changes nothing.
  written_again : (pairs : List (List ℕ × V)) (i : ℕ) (pair : List ℕ × V) → slice_get pairs i ≡ Some pair
      → with_value pairs i pair.1 ≡ pairs
  written_again [] i pair e = refl
  written_again (p ∷ ps) zero pair e = let same : p ≡ pair = cc in ap (λ q. (p.0, q.1) ∷ ps) (sym same)
  written_again (p ∷ ps) (suc i) pair e = ap (λ l. p ∷ l) (written_again ps i pair e)

  -- Putting the value that `key` already has changes nothing.
  pub put_same : (pairs : List (List ℕ × V)) (key : List ℕ) (value : V) → lookup key pairs ≡ Some value → put pairs key value ≡ pairs
  put_same pairs key value there = elim (at pairs key) as (λ found. at pairs key ≡ found → put pairs key value ≡ pairs) [
    | None ↦ λ missing. let none = lookup-absent pairs key missing in cc
    | Some i ↦ λ found.
        let pair : List ℕ × V = get_or pairs i (key, value) in
        let got : slice_get pairs i ≡ Some pair = slice_get-get_or pairs i (key, value) (position_within pairs key i found) in
        let beside = lookup-found pairs key i pair found got in
        let same : pair.1 ≡ value = cc in
        put-present pairs i key value found ∙ ap (with_value pairs i) (sym same) ∙ written_again pairs i pair got
  ] refl

  -- If `key` exists, putting the result of its lookup, with `value` as the default, changes
  -- nothing.
  pub put_found : (pairs : List (List ℕ × V)) (key : List ℕ) (value : V) → IsSome (at pairs key)
      → put pairs key (unwrap_or (lookup key pairs) value) ≡ pairs
  put_found pairs key value there = elim (lookup key pairs) as (λ beside. lookup key pairs ≡ beside
      → put pairs key (unwrap_or beside value) ≡ pairs) [
        | None ↦ λ none. absurd (no_value (at pairs key) refl none)
        | Some v ↦ λ some. put_same pairs key v some
      ] refl
    where
      no_value : (found : Option ℕ) → at pairs key ≡ found → lookup key pairs ≡ None → ⊥
      no_value None missing none = cc
      no_value (Some i) found none =
          let beside = lookup-found pairs key i (get_or pairs i (key, value)) found
          (slice_get-get_or pairs i (key, value) (position_within pairs key i found)) in cc
