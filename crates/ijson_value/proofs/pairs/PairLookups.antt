-- The table of an object has the entries and the capacity of the object. A lookup by key returns
-- the value of the entry at the index of the key.
use Rattle.std.proofs.Common.{◌≡◌, refl, sym, ap, ◌∙◌, ℕ, zero, suc, ◌<◌, List, [], ◌∷◌, length, Option, Some, None, MutBor, arith}
use Rattle.std.specs.Prelude.{slice_get, option_map, option_and_then, IsSome}
use Rattle.std.specs.Option.{option_copied_mut}
use Rattle.std.specs.declared.boxed.Box.{Box}
use Rattle.ijson_table.specs.Placed.{Placed}
use Rattle.ijson_table.specs.Store.{Store, at, lookup}
use Rattle.ijson_table.proofs.pairs.PairsByKey.{lookup-found, lookup-absent, position_within}
use Rattle.ijson_value.specs.AtKey.{pair_at_key}
use Rattle.ijson_value.specs.private.Boxed.{table_store}

module _ {V A : Type 0} where
  -- The table that an object points to has the entries and the capacity of the object.
  pub opened : (table : Option (Box (Placed V) A)) (found : Option (MutBor (Box (Placed V) A))) (box : MutBor (Box (Placed V) A))
      (inside : MutBor (Placed V)) (object : Store V)
      → option_copied_mut found ≡ table → found ≡ Some box → inside.now ≡ box.now.value → table_store table ≡ object
      → inside.now.store ≡ object
  opened table found box inside object is there read viewed =
      ap (λ (t : Placed V). t.store) read ∙ ap table_store (ap option_copied_mut (sym there) ∙ is) ∙ viewed

module _ {V : Type 0} where
  -- If an index is in bounds, an entry exists at the index.
  pub pair_there : (pairs : List (List ℕ × V)) (i : ℕ) → i < length pairs → (pair : List ℕ × V) × (slice_get pairs i ≡ Some pair)
  pair_there [] i within = absurd (omega arith)
  pair_there (p ∷ ps) zero within = (p, refl)
  pair_there (p ∷ ps) (suc i) within = pair_there ps i (omega arith)

  -- A lookup of `key` returns the value of the entry at the index of `key`.
  lookup-position : (pairs : List (List ℕ × V)) (key : List ℕ) (found : Option ℕ) → at pairs key ≡ found
      → lookup key pairs ≡ option_map (λ pair. pair.1) (pair_at_key key pairs)
  lookup-position pairs key None missing =
      lookup-absent pairs key missing ∙ ap (λ i. option_map (λ pair. pair.1) (option_and_then (slice_get pairs) i)) (sym missing)
  lookup-position pairs key (Some i) found =
      let there = pair_there pairs i (position_within pairs key i found) in
      lookup-found pairs key i there.0 found there.1
      ∙ ap (option_map (λ pair. pair.1)) (sym there.1)
      ∙ ap (λ i. option_map (λ pair. pair.1) (option_and_then (slice_get pairs) i)) (sym found)

  -- A lookup of `key` returns the value of the entry of `key`.
  pub lookup_pair : (pairs : List (List ℕ × V)) (key : List ℕ) → lookup key pairs ≡ option_map (λ pair. pair.1) (pair_at_key key pairs)
  lookup_pair pairs key = lookup-position pairs key (at pairs key) refl

  -- The value of a removed entry is the value that a lookup of its key returns.
  pub taken_value : (pairs : List (List ℕ × V)) (key : List ℕ) (taken : Option (List ℕ × V)) → taken ≡ pair_at_key key pairs
      → option_map (λ pair. pair.1) taken ≡ lookup key pairs
  taken_value pairs key taken is = ap (option_map (λ pair. pair.1)) is ∙ sym (lookup_pair pairs key)

  -- If a lookup of `key` returns a value, then `key` has an index.
  pub at-some : (pairs : List (List ℕ × V)) (key : List ℕ) → IsSome (lookup key pairs) → IsSome (at pairs key)
  at-some pairs key some =
      elim (at pairs key) as (λ o. at pairs key ≡ o → IsSome o) [
        | None ↦ λ missing. let none = lookup-absent pairs key missing in cc
        | Some i ↦ λ _. cc
      ] refl
