-- Removing an item from a list decreases the indices of later items by one, and keeps the keys of
-- pairs distinct.
use Rattle.std.proofs.Common.{◌≡◌, ℕ, suc, ◌+◌, ◌<◌, inl, inr, arith, List, [], ◌++◌, length, get_or, map, ltb, sym, ap, subst, ◌∙◌}
use Rattle.std.proofs.Common.{if◌then◌else◌, None}
use Rattle.std.specs.List.{remove}
use Rattle.std.proofs.lemmas.Bool.Decides.{nat_tests}
use Rattle.std.proofs.lemmas.List.{map-append, take-map, drop-map}
use Rattle.std.proofs.lemmas.List.Edits.{length-remove, get_or-remove_below, get_or-remove_above}
use Rattle.std.proofs.lemmas.Bool.{cases_lt}
use Rattle.ijson_table.specs.Store.{at, keys_of, position_of, shift_out, IsDistinct}
use Rattle.ijson_table.proofs.pairs.DistinctKeys.{apart, distinct}
use Rattle.ijson_table.proofs.pairs.KeyPositions.{position-none}
use Rattle.ijson_table.proofs.pairs.PairsByKey.{keys-length}

-- The old index of the item that is at index `i` after the item at index `gone` is removed.
abbrev pub raise : ℕ → ℕ → ℕ
raise gone i = (if ltb i gone then i else i + 1)

-- After a removal, the item at index `i` is the old item at index `raise gone i`.
pub get_or-remove : {X : Type 0} (xs : List X) (gone i : ℕ) (d : X) → gone < length xs
    → get_or (remove xs gone) i d ≡ get_or xs (raise gone i) d
get_or-remove xs gone i d lg = elim (cases_lt i gone) [
  | inl lt ↦ let same : raise gone i ≡ i = grind (arith, nat_tests) in
      get_or-remove_below xs gone d i lt lg ∙ ap (λ n. get_or xs n d) (sym same)
  | inr ge ↦ let same : raise gone i ≡ i + 1 = grind (arith, nat_tests) in
      get_or-remove_above xs gone d i ge lg ∙ ap (λ n. get_or xs n d) (sym same)
]

-- Mapping and removing commute.
pub map-remove : {X Y : Type 0} (f : X → Y) (xs : List X) (i : ℕ) → map f (remove xs i) ≡ remove (map f xs) i
map-remove f xs i = map-append f _ _ ∙ (λ k. sym (take-map f i xs) k ++ sym (drop-map f (suc i) xs) k)

module _ {V : Type 0} where
  -- Removing pair `i` removes key `i`.
  pub keys-shift_out : (pairs : List (List ℕ × V)) (i : ℕ) → keys_of (shift_out pairs i) ≡ remove (keys_of pairs) i
  keys-shift_out pairs i = map-remove (λ pair. pair.0) pairs i

  -- Removing a pair keeps the keys distinct.
  pub distinct_shifted : (pairs : List (List ℕ × V)) (i : ℕ) → IsDistinct (keys_of pairs) → i < length pairs
      → IsDistinct (keys_of (shift_out pairs i))
  distinct_shifted pairs i d li =
      let keys : List (List ℕ) = keys_of pairs in
      let within : i < length keys = omega (arith, li, keys-length pairs) in
      let fewer : length (remove keys i) + 1 ≡ length keys = length-remove keys i within in
      subst IsDistinct (sym (keys-shift_out pairs i)) (distinct (remove keys i) (λ j k lj lk e.
      let below : (n : ℕ) → n < length (remove keys i) → raise i n < length keys = λ n ln. grind (arith, nat_tests, fewer, ln) in
      let same : raise i j ≡ raise i k = apart keys d (raise i j) (raise i k) (below j lj) (below k lk)
      (sym (get_or-remove keys i j [] within) ∙ (e ∙ get_or-remove keys i k [] within)) in
      grind (arith, nat_tests, same)))

  -- After a pair is removed, its key is missing.
  pub shifted_lacks : (pairs : List (List ℕ × V)) (i : ℕ) → IsDistinct (keys_of pairs) → i < length pairs
      → at (shift_out pairs i) (get_or (keys_of pairs) i []) ≡ None
  shifted_lacks pairs i d li =
      let keys : List (List ℕ) = keys_of pairs in
      let within : i < length keys = omega (arith, li, keys-length pairs) in
      let fewer : length (remove keys i) + 1 ≡ length keys = length-remove keys i within in
      ap (λ ks. position_of ks (get_or keys i [])) (keys-shift_out pairs i)
      ∙ position-none (remove keys i) (get_or keys i []) (λ j lj e.
      let below : raise i j < length keys = grind (arith, nat_tests, fewer, lj) in
      let same : raise i j ≡ i = apart keys d (raise i j) i below within (sym (get_or-remove keys i j [] within) ∙ e) in
      grind (arith, nat_tests, same))
