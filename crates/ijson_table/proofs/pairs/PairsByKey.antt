-- Lemmas about the keys of a list of pairs, their indices and their values, also after a change.
use Rattle.std.proofs.Common.{◌≡◌, ◌≢◌, ℕ, zero, suc, ◌+◌, ◌-◌, ◌<◌, inl, inr, arith, List, [], ◌∷◌, ◌++◌, length, get_or, set, take}
use Rattle.std.proofs.Common.{eqb, if◌then◌else◌, Some, None, refl, sym, ap, subst, ◌∙◌, get_or-set_other, length-take}
use Rattle.std.specs.Prelude.{swap_remove, slice_get}
use Rattle.std.specs.Cmp.Lexicographic.{bytes_decides}
use Rattle.std.proofs.lemmas.Option.{get_or_from_slice_get, slice_get_read}
use Rattle.std.proofs.lemmas.List.{get_or_default, get_or-take, length-set, length-map, get_or-map, take-set-le, take-map, map-set}
use Rattle.ijson_table.specs.Store.{keys_of, at, lookup, put, swap_out, with_value, IsDistinct, Lacks}
use Rattle.ijson_table.specs.laws.Store.{keys-with_value}
use Rattle.ijson_table.proofs.pairs.KeyPositions.{head_or_tail, none_in, position-none, position-some, same_key}
use Rattle.ijson_table.proofs.pairs.DistinctKeys.{apart, distinct}
use Rattle.std.proofs.lemmas.Bool.Decides.{nat_tests}
use Rattle.std.proofs.lemmas.Grind.{get_or-set_at}

module _ {V : Type 0} where
  -- The number of keys equals the number of pairs.
  pub keys-length : (pairs : List (List ℕ × V)) → length (keys_of pairs) ≡ length pairs
  keys-length pairs = length-map pairs (λ pair. pair.0)

  -- The index of a key is below the length.
  pub position_within : (pairs : List (List ℕ × V)) (key : List ℕ) (i : ℕ) → at pairs key ≡ Some i → i < length pairs
  position_within pairs key i e = let found = position-some (keys_of pairs) key i e in omega (arith, found.0, keys-length pairs)

  -- The key of pair `i` is element `i` of the keys.
  pub key_at : (pairs : List (List ℕ × V)) (i : ℕ) (pair : List ℕ × V) → i < length pairs
      → get_or (keys_of pairs) i [] ≡ (get_or pairs i pair).0
  key_at pairs i pair li = get_or-map (λ p. p.0) pairs i pair [] li

  -- Pair `i` of a list is also read from an equal list.
  pub slice_get-seen : (old seen : List (List ℕ × V)) (i : ℕ) (pair : List ℕ × V) → old ≡ seen → i < length seen → pair ≡ get_or old i pair
      → slice_get seen i ≡ Some pair
  slice_get-seen old seen i pair same li read =
      slice_get_read seen (length seen) i pair refl li (read ∙ ap (λ ps. get_or ps i pair) same)

  -- Setting pair `i` to its old key and `value` equals `with_value`.
  pub set-value : (pairs : List (List ℕ × V)) (i : ℕ) (pair : List ℕ × V) (value : V) → i < length pairs → pair ≡ get_or pairs i pair
      → set pairs i (pair.0, value) ≡ with_value pairs i value
  set-value [] i pair value li e = absurd (omega arith)
  set-value (p ∷ ps) zero pair value li e = ap (λ q. (q.0, value) ∷ ps) e
  set-value (p ∷ ps) (suc i) pair value li e = ap (λ l. p ∷ l) (set-value ps i pair value (omega arith) e)

  -- Replacing the value of a pair keeps the keys distinct.
  pub distinct_set : (pairs : List (List ℕ × V)) (i : ℕ) (pair : List ℕ × V) (value : V) → i < length pairs → pair ≡ get_or pairs i pair
      → IsDistinct (keys_of pairs) → IsDistinct (keys_of (set pairs i (pair.0, value)))
  distinct_set pairs i pair value li e d = subst IsDistinct
      (sym (ap keys_of (set-value pairs i pair value li e) ∙ keys-with_value pairs i value)) d

  -- Inserting a present key replaces the value at the index of the key.
  pub put-present : (pairs : List (List ℕ × V)) (i : ℕ) (key : List ℕ) (value : V) → at pairs key ≡ Some i
      → put pairs key value ≡ with_value pairs i value
  put-present [] i key value e = cc
  put-present (pair ∷ pairs) i key value e = elim (head_or_tail pair.0 (keys_of pairs) key i e) [
    | inl s ↦ simp s.0 (ap (λ n. with_value (pair ∷ pairs) n value) s.2)
    | inr d ↦ simp (d.0, put-present pairs d.2 key value d.3) (ap (λ n. with_value (pair ∷ pairs) n value) d.4)
  ]

  -- Inserting a missing key appends the pair.
  pub put-absent : (pairs : List (List ℕ × V)) (key : List ℕ) (value : V) → at pairs key ≡ None
      → put pairs key value ≡ pairs ++ (key, value) ∷ []
  put-absent [] key value e = refl
  put-absent (pair ∷ pairs) key value e =
      let lacks = none_in pair.0 (keys_of pairs) key e in simp (lacks.0, put-absent pairs key value lacks.2)

  -- `swap_remove` of std removes the same pair as `swap_out`.
  pub swap_out-is : (pairs : List (List ℕ × V)) (i : ℕ) (d : List ℕ × V) → i < length pairs → swap_remove pairs i d ≡ swap_out pairs i
  swap_out-is [] i d li = absurd (omega arith)
  swap_out-is (pair ∷ pairs) i d li =
      let last : ℕ = length (pair ∷ pairs) - 1 in
      ap (λ x. take last (set (pair ∷ pairs) i x)) (get_or_default (pair ∷ pairs) last d pair (omega arith))
      ∙ sym (take-set-le last (set (pair ∷ pairs) i (get_or (pair ∷ pairs) last pair)) last (get_or (pair ∷ pairs) i pair) (omega arith))

  -- `swap_out` replaces key `i` with the last key, and drops the last key.
  pub keys-swap_out : (pairs : List (List ℕ × V)) (i : ℕ) → i < length pairs
      → keys_of (swap_out pairs i) ≡ take (length pairs - 1) (set (keys_of pairs) i (get_or (keys_of pairs) (length pairs - 1) []))
  keys-swap_out [] i li = absurd (omega arith)
  keys-swap_out (pair ∷ pairs) i li =
      let last : ℕ = length (pair ∷ pairs) - 1 in
      ap keys_of (sym (swap_out-is (pair ∷ pairs) i pair li)) ∙ simp (← take-map, map-set, key_at (pair ∷ pairs) last pair (omega arith))

  -- `swap_out` decreases the number of keys by one.
  pub length-swap_out : (pairs : List (List ℕ × V)) (i : ℕ) → i < length pairs → length (keys_of (swap_out pairs i)) + 1 ≡ length pairs
  length-swap_out pairs i li = simp (keys-swap_out pairs i li, length-take, length-set, keys-length) (omega (arith, li))

  -- After `swap_out`, key `i` is the old last key, and every other key is unchanged.
  came_from : (pairs : List (List ℕ × V)) (i j : ℕ) → i < length pairs → j + 1 < length pairs
      → get_or (keys_of (swap_out pairs i)) j [] ≡ get_or (keys_of pairs) (if eqb j i then length pairs - 1 else j) []
  came_from pairs i j li lj =
      let keys = keys_of pairs in
      let last : List ℕ = get_or keys (length pairs - 1) [] in
      let read = ap (λ ks. get_or ks j []) (keys-swap_out pairs i li) ∙ get_or-take (length pairs - 1) (set keys i last) j [] (omega arith) in
      grind (arith, nat_tests, read, get_or-set_at, get_or-set_other, keys-length pairs)

  -- `swap_out` keeps the keys distinct.
  pub distinct_swapped : (pairs : List (List ℕ × V)) (i : ℕ) → IsDistinct (keys_of pairs) → i < length pairs
      → IsDistinct (keys_of (swap_out pairs i))
  distinct_swapped pairs i d li =
      let size = length-swap_out pairs i li in
      distinct (keys_of (swap_out pairs i)) (λ j l lj ll e.
      let old : ℕ → ℕ = λ n. if eqb n i then length pairs - 1 else n in
      let below : (n : ℕ) → n + 1 < length pairs → old n < length (keys_of pairs) = λ n ln. grind (arith, nat_tests, keys-length pairs) in
      let same : old j ≡ old l = apart (keys_of pairs) d (old j) (old l) (below j (omega arith)) (below l (omega arith))
      (sym (came_from pairs i j li (omega arith)) ∙ (e ∙ came_from pairs i l li (omega arith))) in
      grind (arith, nat_tests, same, size))

  -- After `swap_out`, the removed key is missing.
  pub swapped_lacks : (pairs : List (List ℕ × V)) (i : ℕ) → IsDistinct (keys_of pairs) → i < length pairs
      → at (swap_out pairs i) (get_or (keys_of pairs) i []) ≡ None
  swapped_lacks pairs i d li = position-none (keys_of (swap_out pairs i)) (get_or (keys_of pairs) i []) (λ j lj e.
      let lj' : j + 1 < length pairs = omega (arith, length-swap_out pairs i li) in
      let same : (if eqb j i then length pairs - 1 else j) ≡ i = apart (keys_of pairs) d (if eqb j i then length pairs - 1 else j) i
      (grind (arith, nat_tests, keys-length pairs)) (omega (arith, keys-length pairs)) (sym (came_from pairs i j li lj') ∙ e) in
      grind (arith, nat_tests, same))

  -- A missing key that differs from the key of an appended pair remains missing.
  lacks_pushed : (key : List ℕ) (pairs : List (List ℕ × V)) (pair : List ℕ × V) → Lacks key (keys_of pairs) → key ≢ pair.0
      → Lacks key (keys_of (pairs ++ pair ∷ []))
  lacks_pushed key [] pair l other = (other, tt)
  lacks_pushed key (p ∷ pairs) pair l other = (l.0, lacks_pushed key pairs pair l.1 other)

  -- Appending a missing key keeps the keys distinct.
  pub distinct_pushed : (pairs : List (List ℕ × V)) (key : List ℕ) (value : V) → IsDistinct (keys_of pairs) → at pairs key ≡ None
      → IsDistinct (keys_of (pairs ++ (key, value) ∷ []))
  distinct_pushed [] key value d missing = (tt, tt)
  distinct_pushed (pair ∷ pairs) key value d missing =
      let lacks = none_in pair.0 (keys_of pairs) key missing in
      (lacks_pushed pair.0 pairs (key, value) d.0 lacks.1, distinct_pushed pairs key value d.1 lacks.2)

  -- If the first pair has another key, looking up `key` skips the first pair.
  lookup-other : (pair : List ℕ × V) (pairs : List (List ℕ × V)) (key : List ℕ) → pair.0 ≢ key
      → lookup key (pair ∷ pairs) ≡ lookup key pairs
  lookup-other pair pairs key other = elim (same_key key pair.0) [
    | inl s ↦ absurd (other (sym s.1))
    | inr d ↦ simp d.0
  ]

  -- The value of a key is the value of the pair at the index of the key.
  pub lookup-position : (pairs : List (List ℕ × V)) (key : List ℕ) (i : ℕ) (pair : List ℕ × V) → at pairs key ≡ Some i → i < length pairs
      → pair ≡ get_or pairs i pair → lookup key pairs ≡ Some pair.1
  lookup-position [] key i pair e li is = cc
  lookup-position (p ∷ ps) key i pair e li is = elim (head_or_tail p.0 (keys_of ps) key i e) [
    | inl s ↦
        let here : pair ≡ p = is ∙ ap (λ n. get_or (p ∷ ps) n pair) (sym s.2) in
        simp ((bytes_decides key p.0).1 (sym s.1)) (ap (λ q. Some q.1) (sym here))
    | inr d ↦ lookup-other p ps key d.1 ∙ lookup-position ps key d.2 pair d.3 (omega (arith, d.4, li)) (is ∙ ap (λ n. get_or (p ∷ ps) n pair) (sym d.4))
  ]

  -- If `pair` is read at the index of a key, the value of the key is the value of `pair`.
  pub lookup-found : (pairs : List (List ℕ × V)) (key : List ℕ) (i : ℕ) (pair : List ℕ × V) → at pairs key ≡ Some i
      → slice_get pairs i ≡ Some pair → lookup key pairs ≡ Some pair.1
  lookup-found pairs key i pair e is = lookup-position pairs key i pair e (position_within pairs key i e)
      (sym (get_or_from_slice_get pairs i pair pair is))

  -- The value of a missing key is `None`.
  pub lookup-absent : (pairs : List (List ℕ × V)) (key : List ℕ) → at pairs key ≡ None → lookup key pairs ≡ None
  lookup-absent [] key e = refl
  lookup-absent (p ∷ ps) key e =
      let lacks = none_in p.0 (keys_of ps) key e in
      lookup-other p ps key lacks.1 ∙ lookup-absent ps key lacks.2
