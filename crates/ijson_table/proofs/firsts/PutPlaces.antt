-- An insertion keeps the index of each present key. The index of an inserted missing key is the
-- length before the insertion.
use Rattle.std.proofs.Common.{◌≡◌, ◌≢◌, ℕ, suc, ◌<◌, inl, inr, arith, List, [], ◌∷◌, ◌++◌, length, get_or, Some}
use Rattle.std.proofs.Common.{None, refl, sym, ap, ◌∙◌, length-append}
use Rattle.std.proofs.Math.ListN.{get_or-append}
use Rattle.std.proofs.Math.Seq.{get_or-append_seam}
use Rattle.std.proofs.lemmas.List.{map-append}
use Rattle.ijson_table.specs.Store.{at, keys_of, position_of, put, put_each}
use Rattle.ijson_table.specs.laws.Store.{keys-with_value}
use Rattle.ijson_table.proofs.pairs.KeyPositions.{absent-from, position-first, same_key}
use Rattle.ijson_table.proofs.pairs.PairsByKey.{keys-length, put-absent, put-present}
use Rattle.ijson_table.proofs.pairs.PutEach.{put_each-append}

module _ {V : Type 0} where
  -- Inserting `k` keeps the index of every other key.
  at-put_other : (ps : List (List ℕ × V)) (k key : List ℕ) (v : V) → k ≢ key → at (put ps k v) key ≡ at ps key
  at-put_other [] k key v ne = elim (same_key k key) [
    | inl s ↦ absurd (ne s.1)
    | inr d ↦ simp d.0
  ]
  at-put_other (p ∷ ps) k key v ne = elim (same_key p.0 k) [
    | inl s ↦ simp s.0
    | inr d ↦ simp (d.0, at-put_other ps k key v ne)
  ]

  -- An insertion keeps the index of each present key.
  pub at-put_kept : (ps : List (List ℕ × V)) (k key : List ℕ) (v : V) (i : ℕ) → at ps key ≡ Some i → at (put ps k v) key ≡ Some i
  at-put_kept ps k key v i e = elim (same_key k key) [
    | inl s ↦ ap (λ qs. at qs key) (put-present ps i k v (ap (at ps) s.1 ∙ e))
        ∙ (ap (λ ks. position_of ks key) (keys-with_value ps i v) ∙ e)
    | inr d ↦ at-put_other ps k key v d.1 ∙ e
  ]

  -- The index of an inserted missing key is the length before the insertion.
  pub at-put_new : (ps : List (List ℕ × V)) (key : List ℕ) (v : V) → at ps key ≡ None → at (put ps key v) key ≡ Some (length ps)
  at-put_new ps key v e =
      let keys : List (List ℕ) = keys_of ps in
      ap (λ qs. at qs key) (put-absent ps key v e)
      ∙ (ap (λ ks. position_of ks key) (map-append (λ p. p.0) ps ((key, v) ∷ []))
      ∙ (position-first (keys ++ key ∷ []) key (length keys) (omega (arith, length-append keys (key ∷ [])))
      (get_or-append_seam keys key [] [])
      (λ j lj same. absent-from keys key e j lj (sym (get_or-append keys (key ∷ []) [] j lj) ∙ same)) ∙ ap Some (keys-length ps)))

  -- If the pairs of `more` lack `key`, inserting `more` keeps the index of `key`.
  pub at-put_each : (ps more : List (List ℕ × V)) (key : List ℕ) → ((j : ℕ) → j < length more → get_or (keys_of more) j [] ≢ key)
      → at (put_each ps more) key ≡ at ps key
  at-put_each ps [] key other = refl
  at-put_each ps (pair ∷ more) key other =
      at-put_each (put ps pair.0 pair.1) more key (λ j lj. other (suc j) (omega arith))
      ∙ at-put_other ps pair.0 key pair.1 (other 0 (omega arith))

  -- Inserting `done` and one more pair, in order, equals inserting that pair into the result for
  -- `done`.
  pub put_each-more : (done : List (List ℕ × V)) (key : List ℕ) (value : V)
      → put_each [] (done ++ (key, value) ∷ []) ≡ put (put_each [] done) key value
  put_each-more done key value = put_each-append [] done ((key, value) ∷ [])
