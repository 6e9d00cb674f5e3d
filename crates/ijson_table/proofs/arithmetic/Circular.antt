-- Among `n` slots that wrap around, the distance from `p` to the slot `k < n` slots after `p` is
-- `k`.
use Rattle.std.proofs.Common.{◌≡◌, ℕ, ◌+◌, ◌-◌, ◌<◌, ◌≤◌, ◌⊎◌, arith}
use Rattle.std.proofs.lemmas.Bool.Decides.{nat_tests}
use Rattle.ijson_table.specs.Crowd.{distance}
use Rattle.ijson_table.specs.Slots.{after}
use Rattle.ijson_table.specs.private.Probe.{onward}

-- The slot after a slot below `n` is below `n`.
pub after-below : (n p : ℕ) → p < n → after n p < n
unfolding after
after-below n p h = grind (arith, nat_tests)

-- Slots with the same next slot are equal.
pub after-injective : (n p q : ℕ) → p < n → q < n → after n p ≡ after n q → p ≡ q
unfolding after
after-injective n p q h k e = grind (arith, nat_tests)

-- The slot `k` slots after `p` is below `n`.
pub onward-below : (n p k : ℕ) → p < n → k ≤ n → onward n p k < n
unfolding onward
onward-below n p k h j = grind (arith, nat_tests)

-- The slot 0 slots after `p` is `p`.
pub onward-zero : (n p : ℕ) → p < n → onward n p 0 ≡ p
unfolding onward
onward-zero n p h = grind (arith, nat_tests)

-- The slot after `onward n p k` is `onward n p (k + 1)`.
pub after-onward : (n p k : ℕ) → p < n → k < n → after n (onward n p k) ≡ onward n p (k + 1)
unfolding after onward
after-onward n p k h j = grind (arith, nat_tests)

-- The distance from a slot to itself is 0.
pub distance-self : (n p : ℕ) → distance n p p ≡ 0
unfolding distance
distance-self n p = grind (arith, nat_tests)

-- The distance between two slots is less than the number of slots.
pub distance-below : (n p q : ℕ) → p < n → q < n → distance n p q < n
unfolding distance
distance-below n p q h k = grind (arith, nat_tests)

-- The distance from `p` to the slot `k` slots after `p` is `k`.
pub distance-onward : (n p k : ℕ) → p < n → k < n → distance n p (onward n p k) ≡ k
unfolding distance onward
distance-onward n p k h j = grind (arith, nat_tests)

-- The slot that is `distance n p q` slots after `p` is `q`.
pub onward-distance : (n p q : ℕ) → p < n → q < n → onward n p (distance n p q) ≡ q
unfolding distance onward
onward-distance n p q h k = grind (arith, nat_tests)

-- If `q` is at least `m` slots after `h`, the distance from `h` to `q` is `m` plus the distance
-- from the slot `m` slots after `h`.
pub distance-rest : (n h m q : ℕ) → h < n → q < n → m < n → m ≤ distance n h q → m + distance n (onward n h m) q ≡ distance n h q
unfolding distance onward
distance-rest n h m q a b c d = grind (arith, nat_tests)

-- If `p` is not the last slot before `h`, the slot after `p` is one slot further from `h`.
pub distance-after : (n h p : ℕ) → h < n → p < n → distance n h p + 1 < n → distance n h (after n p) ≡ distance n h p + 1
unfolding distance after
distance-after n h p a b c = grind (arith, nat_tests)

-- If the slot after `p` is not `h`, that slot is one slot further from `h` than `p`.
pub distance-back : (n h p : ℕ) → h < n → p < n → 0 < distance n h (after n p) → distance n h p + 1 ≡ distance n h (after n p)
unfolding distance after
distance-back n h p a b c = grind (arith, nat_tests)

-- The distance from `x` to `p` is the distance of `p` from `e` minus the distance of `x` from `e`,
-- plus `n` if the difference is negative.
pub distance-seen : (n e x p : ℕ) → e < n → x < n → p < n
    → ((distance n e x ≤ distance n e p) × (distance n x p + distance n e x ≡ distance n e p)) ⊎
    ((distance n e p < distance n e x) × (distance n x p + distance n e x ≡ distance n e p + n))
unfolding distance
distance-seen n e x p a b c = grind (arith, nat_tests)

-- Moving forward from `p` by `j` slots and then by `k` slots reaches the slot `j + k` slots after
-- `p`.
pub onward-onward : (n p j k : ℕ) → p < n → j < n → j + k < n → onward n (onward n p j) k ≡ onward n p (j + k)
unfolding onward
onward-onward n p j k a b c = grind (arith, nat_tests)

-- If `p` is `d` slots after `e`, then `e` is `n - d` slots after `p`.
pub round : (n e p : ℕ) → e < n → p < n → onward n p (n - distance n e p) ≡ e
unfolding onward distance
round n e p a b = grind (arith, nat_tests)

-- The distance to `p` from the slot `t` slots before `p` is `t`.
pub distance-round : (n p t : ℕ) → p < n → t < n → distance n (onward n p (n - t)) p ≡ t
unfolding onward distance
distance-round n p t a b = grind (arith, nat_tests)

-- Moving back from `p` by `t` slots and then forward by `j ≤ t` slots reaches the slot `t - j`
-- slots before `p`.
pub onward-round : (n p t j : ℕ) → p < n → t < n → j ≤ t → onward n (onward n p (n - t)) j ≡ onward n p (n - (t - j))
unfolding onward
onward-round n p t j a b c = grind (arith, nat_tests)
