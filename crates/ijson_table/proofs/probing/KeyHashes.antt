-- The hashes of the keys of pairs.
use Rattle.std.proofs.Common.{◌≡◌, ℕ, ◌-◌, ◌<◌, arith, List, [], ◌∷◌, ◌++◌, length, take, map, get_or, set, sym, ap, ◌∙◌}
use Rattle.std.specs.List.{swap_remove}
use Rattle.std.proofs.lemmas.Bool.Decides.{nat_tests}
use Rattle.std.proofs.lemmas.List.{length-map, map-append, map-set, get_or-map, take-map}
use Rattle.ijson_table.specs.Store.{keys_of, swap_out}
use Rattle.ijson_table.specs.laws.Store.{keys-with_value}
use Rattle.ijson_table.specs.Growth.{Grown}
use Rattle.ijson_table.proofs.pairs.PairsByKey.{key_at, keys-length, keys-swap_out, set-value}

module _ {V : Type 0} (hash : List ℕ → ℕ) where
  -- The hash of each key, in order.
  abbrev pub hashes : List (List ℕ × V) → List ℕ
  hashes pairs = map hash (keys_of pairs)

  -- The number of hashes equals the number of pairs.
  pub length-hashes : (pairs : List (List ℕ × V)) → length (hashes pairs) ≡ length pairs
  length-hashes pairs = length-map (keys_of pairs) hash ∙ keys-length pairs

  -- The hash of the key of pair `i` is element `i` of the hashes.
  pub hash_at : (pairs : List (List ℕ × V)) (i : ℕ) (pair : List ℕ × V) (h : ℕ) → i < length pairs → h ≡ hash (get_or pairs i pair).0
      → h ≡ get_or (hashes pairs) i 0
  hash_at pairs i pair h li is =
      is ∙ sym (get_or-map hash (keys_of pairs) i [] 0 (omega (arith, li, keys-length pairs)) ∙ ap hash (key_at pairs i pair li))

  -- Appending a pair appends the hash of its key.
  pub hashes-push : (pairs : List (List ℕ × V)) (key : List ℕ) (value : V)
      → hashes (pairs ++ (key, value) ∷ []) ≡ hashes pairs ++ hash key ∷ []
  hashes-push pairs key value = ap (map hash) (map-append (λ p. p.0) pairs ((key, value) ∷ [])) ∙ map-append hash (keys_of pairs) (key ∷ [])

  -- Replacing the value of a pair keeps the hashes.
  pub hashes-set : (pairs : List (List ℕ × V)) (i : ℕ) (pair : List ℕ × V) (value : V) → i < length pairs → pair ≡ get_or pairs i pair
      → hashes (set pairs i (pair.0, value)) ≡ hashes pairs
  hashes-set pairs i pair value li e = ap (map hash) (ap keys_of (set-value pairs i pair value li e) ∙ keys-with_value pairs i value)

  -- The hashes after `swap_out` are the old hashes after `swap_remove` at the same index.
  pub hashes-swap_out : (pairs : List (List ℕ × V)) (i : ℕ) → i < length pairs → hashes (swap_out pairs i) ≡ swap_remove (hashes pairs) i 0
  hashes-swap_out pairs i li =
      let keys : List (List ℕ) = keys_of pairs in
      let n : ℕ = length pairs - 1 in
      let last : List ℕ = get_or keys n [] in
      let size : length (hashes pairs) - 1 ≡ n = ap (λ k. k - 1) (length-hashes pairs) in
      ap (map hash) (keys-swap_out pairs i li)
      ∙ (sym (take-map hash n (set keys i last))
      ∙ (ap (take n) (map-set hash keys i last)
      ∙ (ap (λ h. take n (set (hashes pairs) i h)) (sym (get_or-map hash keys n [] 0 (omega (arith, li, keys-length pairs))))
      ∙ ap (λ k. take k (set (hashes pairs) i (get_or (hashes pairs) k 0))) (sym size))))

-- If the length is below the capacity, reserving one more entry does not grow.
pub had_room : (len c : ℕ) → len < c → Grown len c 1 c
had_room len c room = (grind (arith, nat_tests, room), λ less. absurd (omega (arith, less)))
