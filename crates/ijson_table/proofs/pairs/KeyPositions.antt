-- The index of a key in a list: the first index at which the list has the key, or `None` if the key
-- is missing.
use Rattle.std.proofs.Common.{◌≡◌, ◌≢◌, ℕ, zero, suc, ◌+◌, ◌<◌, ◌⊎◌, inl, inr, arith, List, [], ◌∷◌, length, get_or}
use Rattle.std.proofs.Common.{Option, Some, None, true, false, refl, sym, ap, subst, ◌∙◌}
use Rattle.std.specs.Prelude.{bytes_eq, option_map}
use Rattle.std.specs.Cmp.Lexicographic.{bytes_decides}
use Rattle.ijson_table.specs.Store.{position_of, IsDistinct}
use Rattle.ijson_table.proofs.pairs.DistinctKeys.{apart}

-- `bytes_eq` is true if two keys are equal, and false if they differ.
pub same_key : (a b : List ℕ) → ((bytes_eq a b ≡ true) × (a ≡ b)) ⊎ ((bytes_eq a b ≡ false) × (a ≢ b))
same_key a b = elim (bytes_eq a b) as (λ r. bytes_eq a b ≡ r → ((bytes_eq a b ≡ true) × (a ≡ b)) ⊎ ((bytes_eq a b ≡ false) × (a ≢ b))) [
  | true ↦ λ e. inl (e, (bytes_decides a b).0 e)
  | false ↦ λ e. inr (e, λ same. let yes_it_is = (bytes_decides a b).1 same in let bad : true ≡ false = sym yes_it_is ∙ e in cc)
] refl

-- If `i` is the first index with `key`, the index of `key` is `i`.
pub position-first : (keys : List (List ℕ)) (key : List ℕ) (i : ℕ) → i < length keys → get_or keys i [] ≡ key
    → ((j : ℕ) → j < i → get_or keys j [] ≢ key) → position_of keys key ≡ Some i
position-first [] key i li e before = absurd (omega arith)
position-first (k ∷ ks) key zero li e before = simp ((bytes_decides k key).1 e)
position-first (k ∷ ks) key (suc i) li e before = elim (same_key k key) [
  | inl s ↦ absurd (before 0 (omega arith) s.1)
  | inr d ↦ simp (d.0, position-first ks key i (omega arith) e (λ j lj. before (suc j) (omega arith))) (ap Some (omega arith))
]

-- If each key of a list differs from `key`, the index of `key` is `None`.
pub position-none : (keys : List (List ℕ)) (key : List ℕ) → ((j : ℕ) → j < length keys → get_or keys j [] ≢ key)
    → position_of keys key ≡ None
position-none [] key missing = refl
position-none (k ∷ ks) key missing = elim (same_key k key) [
  | inl s ↦ absurd (missing 0 (omega arith) s.1)
  | inr d ↦ simp (d.0, position-none ks key (λ j lj. missing (suc j) (omega arith)))
]

-- If keys are distinct and key `i` is `key`, the index of `key` is `i`.
pub position-distinct : (keys : List (List ℕ)) (key : List ℕ) (i : ℕ) → IsDistinct keys → i < length keys → get_or keys i [] ≡ key
    → position_of keys key ≡ Some i
position-distinct keys key i d li e = position-first keys key i li e
    (λ j lj same. let it : j ≡ i = apart keys d j i (omega arith) li (same ∙ sym e) in omega arith)

-- If an optional index plus one is `Some i`, the optional index is `Some j` with `j` one less than
-- `i`.
shifted : (o : Option ℕ) (i : ℕ) → option_map (λ i. i + 1) o ≡ Some i → (j : ℕ) × (o ≡ Some j) × (suc j ≡ i)
shifted None i e = cc
shifted (Some j) i e = let more : j + 1 ≡ i = cc in (j, refl, omega (arith, more))

-- If an optional index plus one is `None`, the optional index is `None`.
none_shifted : (o : Option ℕ) → option_map (λ i. i + 1) o ≡ None → o ≡ None
none_shifted None e = refl
none_shifted (Some j) e = cc

-- If `key` has index `i` in `k ∷ ks`, then `key` is `k` and `i` is 0, or `key` differs from `k` and
-- `i` is one more than the index of `key` in `ks`.
pub head_or_tail : (k : List ℕ) (ks : List (List ℕ)) (key : List ℕ) (i : ℕ) → position_of (k ∷ ks) key ≡ Some i
    → ((bytes_eq k key ≡ true) × (k ≡ key) × (0 ≡ i)) ⊎
    ((bytes_eq k key ≡ false) × (k ≢ key) × (j : ℕ) × (position_of ks key ≡ Some j) × (suc j ≡ i))
head_or_tail k ks key i e = elim (same_key k key) [
  | inl s ↦ let here : Some 0 ≡ Some i = simp s.0 at e in inl (s.0, s.1, cc)
  | inr d ↦ let rest = shifted (position_of ks key) i (simp d.0 at e) in inr (d.0, d.1, rest.0, rest.1, rest.2)
]

-- If `k ∷ ks` lacks `key`, then `key` differs from `k`, and `ks` lacks `key`.
pub none_in : (k : List ℕ) (ks : List (List ℕ)) (key : List ℕ) → position_of (k ∷ ks) key ≡ None
    → (bytes_eq k key ≡ false) × (k ≢ key) × (position_of ks key ≡ None)
none_in k ks key e = elim (same_key k key) [
  | inl s ↦ let bad : ◌≡◌ {A = Option ℕ} (Some 0) None = simp s.0 at e in cc
  | inr d ↦ (d.0, d.1, none_shifted (position_of ks key) (simp d.0 at e))
]

-- If the index of `key` is `None`, each key of the list differs from `key`.
pub absent-from : (keys : List (List ℕ)) (key : List ℕ) → position_of keys key ≡ None → (j : ℕ) → j < length keys → get_or keys j [] ≢ key
absent-from [] key none j lj e = omega arith
absent-from (k ∷ ks) key none zero lj e = (none_in k ks key none).1 e
absent-from (k ∷ ks) key none (suc j) lj e = absent-from ks key (none_in k ks key none).2 j (omega arith) e

-- If the index of `key` is `i`, then `i` is below the length, and key `i` is `key`.
pub position-some : (keys : List (List ℕ)) (key : List ℕ) (i : ℕ) → position_of keys key ≡ Some i
    → (i < length keys) × (get_or keys i [] ≡ key)
position-some [] key i e = cc
position-some (k ∷ ks) key i e = elim (head_or_tail k ks key i e) [
  | inl s ↦ (omega (arith, s.2), subst (λ n. get_or (k ∷ ks) n [] ≡ key) s.2 s.1)
  | inr d ↦
      let further = position-some ks key d.2 d.3 in
      (omega (arith, further.0, d.4), subst (λ n. get_or (k ∷ ks) n [] ≡ key) d.4 further.1)
]
