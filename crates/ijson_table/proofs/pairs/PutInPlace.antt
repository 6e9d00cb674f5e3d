-- Insertion of pairs in order within their list. The first `k` pairs have distinct keys, and the
-- pairs from `p` on are not yet inserted.
use Rattle.std.proofs.Common.{◌≡◌, ℕ, ◌+◌, ◌<◌, ◌≤◌, arith, List, [], ◌∷◌, length, get_or, set, take, drop, Some, None, sym, ap, ap₂, ◌∙◌, refl}
use Rattle.std.proofs.Common.{length-take-le, le_of_lt}
use Rattle.std.specs.Prelude.{swap}
use Rattle.std.proofs.Math.Seq.{take-set-lt}
use Rattle.std.proofs.lemmas.List.{at_drop_more, drop-set-lt, get_or_default, take_more, take-set-le}
use Rattle.std.proofs.lemmas.List.Edits.{length-swap, swap_is, swapped_from_swap}
use Rattle.ijson_table.specs.Store.{at, keys_of, put, put_each, with_value}
use Rattle.ijson_table.specs.laws.Store.{keys-with_value}
use Rattle.ijson_table.proofs.pairs.KeyPositions.{position-some}
use Rattle.ijson_table.proofs.pairs.PairsByKey.{key_at, position_within, put-absent, put-present, set-value}

module _ {X : Type 0} where
  -- Swapping items from index `n` on keeps the first `n` items.
  take-swap : (xs : List X) (n i j : ℕ) → n ≤ i → n ≤ j → take n (swap xs i j) ≡ take n xs
  take-swap [] n i j ni nj = refl
  take-swap (x ∷ xs) n i j ni nj = simp take-set-le

  -- Swapping items before index `n` keeps the items from index `n` on.
  drop-swap : (xs : List X) (n i j : ℕ) → i < n → j < n → drop n (swap xs i j) ≡ drop n xs
  drop-swap [] n i j ni nj = refl
  drop-swap (x ∷ xs) n i j ni nj = simp drop-set-lt

-- Holds if `pair` is pair `p` of the old list and pair `k` of the new list.
pub record Moved {V : Type 0} (old new : List (List ℕ × V)) (k p : ℕ) : Type 0 where
  pub pair : List ℕ × V
  pub is : pair ≡ get_or new k pair
  pub was : pair ≡ get_or old p pair

moved : {V : Type 0} (old new : List (List ℕ × V)) (k p : ℕ) → k ≤ p → p < length old → new ≡ swap old k p → Moved old new k p
moved [] new k p kp lp is = absurd (omega arith)
moved (x ∷ xs) new k p kp lp is =
    let pair : List ℕ × _ = get_or (x ∷ xs) p x in
    record {
      pair = pair;
      is = sym (get_or_default new k pair x (omega (arith, kp, lp, ap length is, length-swap (x ∷ xs) k p))
          ∙ (swapped_from_swap (x ∷ xs) new k p x (omega (arith, kp, lp)) lp is).0);
      was = get_or_default (x ∷ xs) p x pair lp;
    }

module _ {V : Type 0} (old new : List (List ℕ × V)) (k p : ℕ) (kp : k ≤ p) (lp : p < length old) (is : new ≡ swap old k p) where
  -- Swapping pairs `k` and `p`, where `k ≤ p`, keeps the first `k` pairs.
  pub moved_first : take k new ≡ take k old
  moved_first = ap (take k) is ∙ take-swap old k k p (omega arith) kp

  -- Swapping pairs `k` and `p`, where `k ≤ p`, keeps the pairs after index `p`.
  pub moved_left : drop (p + 1) new ≡ drop (p + 1) old
  moved_left = ap (drop (p + 1)) is ∙ drop-swap old (p + 1) k p (omega (arith, kp)) (omega arith)

  within : k < length new
  within = omega (arith, kp, lp, ap length is, length-swap old k p)

  pub next : Moved old new k p
  next = moved old new k p kp lp is

  pub next_key : get_or (keys_of new) k [] ≡ next.pair.0
  next_key = key_at new k next.pair within ∙ ap (λ x. x.0) (sym next.is)

  -- Inserting the next pair, then the pairs after index `p`, equals inserting the pairs from `p`
  -- on.
  next_left : put_each (put (take k old) next.pair.0 next.pair.1) (drop (p + 1) new) ≡ put_each (take k old) (drop p old)
  next_left = ap (put_each (put (take k old) next.pair.0 next.pair.1)) moved_left
      ∙ sym (at_drop_more (put_each (take k old)) old p next.pair lp ∙ ap (λ x. put_each (put (take k old) x.0 x.1) (drop (p + 1) old)) (sym next.was))

  -- If the key of pair `p` is new, swapping pairs `k` and `p` inserts pair `p` into the first `k`
  -- pairs.
  pub one_more : at (take k new) (get_or (keys_of new) k []) ≡ None → take (k + 1) new ≡ put (take k old) next.pair.0 next.pair.1
  one_more missing =
      let appended = put-absent (take k new) next.pair.0 next.pair.1 (ap (at (take k new)) (sym next_key) ∙ missing) in
      cc (take_more new k next.pair within, next.is, appended, moved_first)

  pub put_next : at (take k new) (get_or (keys_of new) k []) ≡ None
      → put_each (take (k + 1) new) (drop (p + 1) new) ≡ put_each (take k old) (drop p old)
  put_next missing = ap (λ ps. put_each ps (drop (p + 1) new)) (one_more missing) ∙ next_left

  module _ (i : ℕ) (found : at (take k new) (get_or (keys_of new) k []) ≡ Some i) where
    pub before : i < k
    before = omega (arith, position_within (take k new) (get_or (keys_of new) k []) i found, length-take-le k new (le_of_lt within))

    -- If the key of pair `k` is at index `i`, swapping pairs `i` and `k` sets the value at index
    -- `i` to the value of pair `k`, and leaves the other pairs before index `k` unchanged.
    over : take k (swap new i k) ≡ with_value (take k new) i next.pair.1
    over =
        let first : List (List ℕ × V) = take k new in
        let there : i < length first = omega (arith, before, length-take-le k new (le_of_lt within)) in
        let pair : List ℕ × V = get_or first i next.pair in
        let same : next.pair ≡ (pair.0, next.pair.1) = ap (λ key. (key, next.pair.1))
        (sym (sym (key_at first i next.pair there) ∙ ((position-some (keys_of first) (get_or (keys_of new) k []) i found).1 ∙ next_key))) in
        let swapped = swap_is new i k next.pair (omega (arith, before, within)) within in
        let last = take-set-le k (set new i (get_or new k next.pair)) k (get_or new i next.pair) (omega arith) in
        let put = take-set-lt k new i (get_or new k next.pair) before in
        let value = set-value first i pair next.pair.1 there (get_or_default first i next.pair pair there) in
        cc (swapped, last, put, value, next.is, same)

    -- If the key of pair `k` is at index `i`, swapping pairs `i` and `k` leaves the first `k` keys
    -- as in `old`.
    pub over_keys : keys_of (take k (swap new i k)) ≡ keys_of (take k old)
    over_keys = ap keys_of over ∙ (keys-with_value (take k new) i next.pair.1 ∙ ap keys_of moved_first)

    -- If the key of the next pair is at index `i`, swapping pairs `i` and `k` inserts the next
    -- pair.
    pub over_put : take k (swap new i k) ≡ put (take k old) next.pair.0 next.pair.1
    over_put =
        let replaced = put-present (take k new) i next.pair.0 next.pair.1 (ap (at (take k new)) (sym next_key) ∙ found) in
        cc (over, replaced, moved_first)

    pub over_left : drop (p + 1) (swap new i k) ≡ drop (p + 1) new
    over_left = drop-swap new (p + 1) i k (omega (arith, before, kp)) (omega (arith, kp))

    pub put_over : put_each (take k (swap new i k)) (drop (p + 1) (swap new i k)) ≡ put_each (take k old) (drop p old)
    put_over = ap₂ put_each over_put over_left ∙ next_left
