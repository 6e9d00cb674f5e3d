-- A list of pairs after a key is replaced.
use Rattle.std.proofs.Common.{◌≡◌, ◌≢◌, ℕ, zero, suc, ◌<◌, arith, List, [], ◌∷◌, length, get_or, set, None, refl, sym, ap}
use Rattle.ijson_table.specs.Store.{at, keys_of, with_key, IsDistinct, Lacks}
use Rattle.ijson_table.proofs.pairs.DistinctKeys.{lacks_from}
use Rattle.ijson_table.proofs.pairs.KeyPositions.{absent-from, none_in}

module _ {V : Type 0} where
  -- Setting pair `i` to `key` and its old value equals `with_key`.
  pub set-key : (pairs : List (List ℕ × V)) (i : ℕ) (pair : List ℕ × V) (key : List ℕ) → i < length pairs → pair ≡ get_or pairs i pair
      → set pairs i (key, pair.1) ≡ with_key pairs i key
  set-key [] i pair key li e = absurd (omega arith)
  set-key (p ∷ ps) zero pair key li e = ap (λ q. (key, q.1) ∷ ps) e
  set-key (p ∷ ps) (suc i) pair key li e = ap (λ l. p ∷ l) (set-key ps i pair key (omega arith) e)

  -- Replacing the key of pair `i` replaces key `i`.
  pub keys-with_key : (pairs : List (List ℕ × V)) (i : ℕ) (key : List ℕ) → keys_of (with_key pairs i key) ≡ set (keys_of pairs) i key
  keys-with_key [] i key = refl
  keys-with_key (p ∷ ps) zero key = refl
  keys-with_key (p ∷ ps) (suc i) key = ap (λ ks. p.0 ∷ ks) (keys-with_key ps i key)

  -- A missing key that differs from the new key remains missing after a key is replaced.
  lacks_with_key : (k : List ℕ) (pairs : List (List ℕ × V)) (i : ℕ) (key : List ℕ) → Lacks k (keys_of pairs) → k ≢ key
      → Lacks k (keys_of (with_key pairs i key))
  lacks_with_key k [] i key l other = tt
  lacks_with_key k (p ∷ ps) zero key l other = (other, l.1)
  lacks_with_key k (p ∷ ps) (suc i) key l other = (l.0, lacks_with_key k ps i key l.1 other)

  -- If the new key is missing, replacing a key with the new key keeps the keys distinct.
  pub distinct_with_key : (pairs : List (List ℕ × V)) (i : ℕ) (key : List ℕ) → IsDistinct (keys_of pairs) → i < length pairs
      → at pairs key ≡ None → IsDistinct (keys_of (with_key pairs i key))
  distinct_with_key [] i key d li missing = tt
  distinct_with_key (p ∷ ps) zero key d li missing = (
    lacks_from key (keys_of ps) (λ j lj same. absent-from (keys_of (p ∷ ps)) key missing (suc j) (omega arith) (sym same)),
    d.1,
  )
  distinct_with_key (p ∷ ps) (suc i) key d li missing =
      let none = none_in p.0 (keys_of ps) key missing in
      (lacks_with_key p.0 ps i key d.0 none.1, distinct_with_key ps i key d.1 (omega arith) none.2)

  -- Replacing a key with an equal key changes no pair.
  pub with_same_key : (pairs : List (List ℕ × V)) (i : ℕ) (key : List ℕ) → i < length pairs → get_or (keys_of pairs) i [] ≡ key
      → with_key pairs i key ≡ pairs
  with_same_key [] i key li e = absurd (omega arith)
  with_same_key (p ∷ ps) zero key li e = ap (λ k. (k, p.1) ∷ ps) (sym e)
  with_same_key (p ∷ ps) (suc i) key li e = ap (λ l. p ∷ l) (with_same_key ps i key (omega arith) e)
