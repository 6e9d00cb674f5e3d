-- Sorted hashed indices are written to different slots. Each is in its home slot, or is displaced
-- at most one slot further than the index in the previous slot.
use Rattle.std.proofs.Common.{◌≡◌, ◌≢◌, ◌⊎◌, ℕ, zero, suc, ◌+◌, ◌-◌, ◌<◌, ◌≤◌, inl, inr, arith, List, length, get_or, max, ap}
use Rattle.std.specs.Prelude.{ltb, if◌then◌else◌}
use Rattle.std.proofs.lemmas.Bool.{cases_eq, cases_lt}
use Rattle.std.proofs.lemmas.Bool.Decides.{nat_tests}
use Rattle.std.proofs.lemmas.Nat.{mod_below}
use Rattle.ijson_table.specs.declared.sorting.order.HashedIndex.{HashedIndex}
use Rattle.ijson_table.specs.Crowd.{distance}
use Rattle.ijson_table.specs.Slots.{after}
use Rattle.ijson_table.specs.private.EntryOrder.{entry_before}
use Rattle.ijson_table.specs.private.Homes.{home_of_entry, next_after, passing}
use Rattle.ijson_table.specs.private.Sorting.{past_last, IsSortedBy}
use Rattle.ijson_table.proofs.firsts.KeyTies.{homes_ascend, sorted_at}

-- The slot number `p`, which is below `2 * n`, after it wraps around `n` slots.
unfoldable pub wrapped : ℕ → ℕ → ℕ
wrapped n p = (if ltb p n then p else p - n)

module _ (h : ℕ → ℕ) (s : ℕ) where
  abbrev next : ℕ → ℕ
  next k = next_after h s k

  -- `next` grows by at least 1 with each hashed index.
  rises : (k l : ℕ) → k ≤ l → next k + l ≤ next l + k
  rises k zero le = omega (arith, ap next (let e : k ≡ 0 = omega arith in e))
  rises k (suc l) le = elim (cases_lt k (suc l)) [
    | inl less ↦ omega (arith, rises k l (omega arith))
    | inr same ↦ omega (arith, ap next (let e : k ≡ suc l = omega arith in e))
  ]

  -- If the first `l` home slots are at most `b`, `next l` exceeds the maximum of `next k` and `b`
  -- by at most `l - k`.
  upper : (b k l : ℕ) → k ≤ l → ((j : ℕ) → j < l → h j ≤ b) → next l + k ≤ max (next k) b + l
  upper b k zero le within = omega (arith, ap next (let e : k ≡ 0 = omega arith in e))
  upper b k (suc l) le within = elim (cases_lt k (suc l)) [
    | inl less ↦ omega (arith, upper b k l (omega arith) (λ j lj. within j (omega arith)), within l (omega arith))
    | inr same ↦ omega (arith, ap next (let e : k ≡ suc l = omega arith in e))
  ]

  -- The slot after `k` indices written from slot `s` on is the maximum of `s + k` and the slot
  -- after `k` indices written from slot 0 on.
  from_start : (k : ℕ) → next_after h s k ≡ max (s + k) (next_after h 0 k)
  from_start zero = omega arith
  from_start (suc k) = omega (arith, from_start k)

-- The slot number of element `k` of `sorted`, before wrapping around. The first slots are reserved
-- for the elements that wrap around.
abbrev pub spot : ℕ → List HashedIndex → ℕ → ℕ
spot n sorted k = max (next_after (home_of_entry n sorted) (passing n sorted) k) (home_of_entry n sorted k)

abbrev pub place : ℕ → List HashedIndex → ℕ → ℕ
place n sorted k = wrapped n (spot n sorted k)

-- Holds if `p` assigns different slots to the elements of `sorted`. Each element is in its home
-- slot, or is displaced at most one slot further than the element in the previous slot.
pub record ArePlaces (n : ℕ) (sorted : List HashedIndex) (p : ℕ → ℕ) : Type 0 where
  pub below : (k : ℕ) → k < length sorted → p k < n
  pub apart : (j k : ℕ) → j < k → k < length sorted → p j ≢ p k
  pub led : (k : ℕ) → k < length sorted → (distance n (home_of_entry n sorted k) (p k) ≡ 0)
      ⊎ ((i : ℕ) × (i < length sorted) × (after n (p i) ≡ p k)
      × (distance n (home_of_entry n sorted k) (p k) ≤ distance n (home_of_entry n sorted i) (p i) + 1))

module _ (n : ℕ) (sorted : List HashedIndex) (room : length sorted ≤ n) (keys : List (List ℕ))
    (ordered : IsSortedBy (entry_before n keys) sorted) where
  abbrev m : ℕ
  m = length sorted

  abbrev h : ℕ → ℕ
  h k = home_of_entry n sorted k

  abbrev w : ℕ
  w = passing n sorted

  abbrev at : ℕ → ℕ
  at k = spot n sorted k

  h-below : (k : ℕ) → k < m → h k < n
  h-below k lk = mod_below (get_or sorted k past_last).hash n (omega (arith, room))

  h-ascends : (j k : ℕ) → j < k → k < m → h j ≤ h k
  h-ascends j k less lk = homes_ascend n keys (get_or sorted j past_last) (get_or sorted k past_last) (sorted_at (entry_before n keys) sorted ordered j k less lk)

  -- The sum `n + w` is at most `n`, or exceeds the maximum of `h k + k` and `n - 1` by at most
  -- `m - k`.
  split : (k : ℕ) → k < m → n + w + k ≤ max (n + k) (max (h k + k) (n - 1) + m)
  split k lk = omega (
    arith,
    upper h 0 (n - 1) k m (omega arith) (λ j lj. omega (arith, h-below j lj)),
    upper h 0 (h k) 0 k (omega arith) (λ j lj. h-ascends j k lj lk),
  )

  few : 0 < m → w < n
  few some = omega (arith, split 0 some, h-below 0 some, room)

  -- The slot number of each element is below `n + w`, before wrapping around.
  within : (k : ℕ) → k < m → at k < n + w
  within k lk = omega (arith, room, from_start h w m, rises h w (suc k) m (omega arith))

  spot-below : (k : ℕ) → k < m → at k < n + n
  spot-below k lk = omega (arith, within k lk, few (omega arith))

  far : (k : ℕ) → k < m → distance n (h k) (place n sorted k) + h k ≡ at k
  unfolding wrapped distance
  far k lk =
      let near : at k < h k + n = omega (arith, split k lk, room, upper h w (h k) 0 k (omega arith) (λ j lj. h-ascends j k lj lk)) in
      grind (arith, nat_tests, h-below k lk, near)

  -- If element `k` is not in its home slot, the previous slot has an element, and element `k` is
  -- displaced at most one slot further.
  previous : (k : ℕ) → k < m → at k ≢ h k → (i : ℕ) × (i < m) × (after n (place n sorted i) ≡ place n sorted k) × (at k + h i ≤ at i + 1 + h k)
  unfolding wrapped after
  previous zero lk away =
      let i : ℕ = m - 1 in
      let turn : at i + 1 ≡ n + w = omega (arith, room, from_start h w m, ap (next_after h w) (let e : suc i ≡ m = omega arith in e)) in
      (i, omega arith, grind (arith, nat_tests, turn, few lk, away), omega (arith, turn, h-below i (omega arith)))
  previous (suc k) lk away =
      let next : at k + 1 ≡ at (suc k) = omega arith in
      (k, omega arith, grind (arith, nat_tests, next, spot-below (suc k) lk), omega (arith, h-ascends k (suc k) (omega arith) lk))

  pub places : ArePlaces n sorted (place n sorted)
  unfolding wrapped
  places = record {
    below = λ k lk. grind (arith, nat_tests, spot-below k lk);
    apart = λ j k less lk same. grind (arith, nat_tests, same, rises h w 0 j (omega arith), rises h w (suc j) k (omega arith), within k lk);
    led = λ k lk. elim (cases_eq (at k) (h k)) [
      | inl home ↦ inl (omega (arith, far k lk, home))
      | inr away ↦ let b = previous k lk away in inr (b.0, b.1, b.2, omega (arith, b.3, far k lk, far b.0 b.1))
    ];
  }
