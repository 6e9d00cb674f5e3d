-- An index may be inserted at the slot at which the probe for the index ends.
use Rattle.std.proofs.Common.{◌≡◌, ◌≢◌, ℕ, zero, suc, ◌-◌, ◌<◌, ◌≤◌, ◌⊎◌, inl, inr, arith, List, [], ◌∷◌, length, set, Option, Some}
use Rattle.std.proofs.Common.{None, refl, sym, ap, ◌∙◌, get_or-set_other}
use Rattle.std.specs.Prelude.{sum}
use Rattle.std.proofs.lemmas.Bool.Decides.{nat_tests}
use Rattle.std.proofs.lemmas.List.{length-set}
use Rattle.std.proofs.lemmas.List.Sums.{sum_by-set}
use Rattle.std.proofs.lemmas.Bool.{cases_lt}
use Rattle.ijson_table.specs.Crowd.{distance}
use Rattle.ijson_table.specs.private.Holds.{MayStand, HasEmpty}
use Rattle.ijson_table.specs.Slots.{after, displacement, resident, home_at, times, below}
use Rattle.ijson_table.specs.private.Probe.{onward, Passed}
use Rattle.ijson_table.proofs.arithmetic.Circular.{after-injective, onward-below, after-onward, distance-below, distance-onward}
use Rattle.ijson_table.proofs.arithmetic.Circular.{onward-distance}
use Rattle.ijson_table.proofs.arithmetic.Counting.{covers}
use Rattle.ijson_table.proofs.slots.Residents.{times-some, stands_once}
use Rattle.ijson_table.proofs.probing.LookCount.{ones, sum-ones, one-at, length-ones}

-- If all slots have residents, so do all slots of `Some i ∷ slots`.
later : (i : ℕ) (slots : List (Option ℕ)) → ((p : ℕ) → p < length slots → (j : ℕ) × (resident slots p ≡ Some j)) → (p : ℕ)
    → p < length (Some i ∷ slots) → (j : ℕ) × (resident (Some i ∷ slots) p ≡ Some j)
later i slots full zero lp = (i, refl)
later i slots full (suc p) lp = full p (omega arith)

-- A slot is empty, or all slots have residents.
empty_or_full : (slots : List (Option ℕ)) → ((e : ℕ) × (e < length slots) × (resident slots e ≡ None)) ⊎
    ((p : ℕ) → p < length slots → (i : ℕ) × (resident slots p ≡ Some i))
empty_or_full [] = inr (λ p lp. absurd (omega arith))
empty_or_full (None ∷ slots) = inl (0, omega arith, refl)
empty_or_full (Some i ∷ slots) = elim (empty_or_full slots) [
  | inl found ↦ inl (suc found.0, omega (arith, found.1), found.2)
  | inr full ↦ inr (later i slots full)
]

-- If at least `count` slots hold only indices below `count`, each at most once, and lack index `k`,
-- then a slot is empty.
pub some_empty : (slots : List (Option ℕ)) (count k : ℕ) → ((i : ℕ) → times i slots ≤ below count i) → k < count → times k slots ≡ 0
    → count ≤ length slots → HasEmpty slots
some_empty slots count k few lk none fits = elim (empty_or_full slots) [
  | inl found ↦ found
  | inr full ↦
      let others : List ℕ = set (ones count) k 0 in
      let all : length slots ≤ sum others = covers (length slots) (λ i j. resident slots j ≡ Some i) others
      (λ i j l lj ll a b.
      let once : times i slots ≤ 1 = grind (arith, nat_tests, few i) in
      stands_once i slots j l once lj ll a b)
      (λ j lj.
      let who = full j lj in
      let some = times-some who.0 slots j lj who.1 in
      let li : who.0 < count = grind (arith, nat_tests, few who.0, some) in
      let other : who.0 ≢ k = λ same. omega (arith, some, none, ap (λ i. times i slots) same) in (
        who.0,
        omega (arith, length-set (ones count) k 0, length-ones count, li),
        who.1,
        omega
            (arith, get_or-set_other (ones count) k who.0 0 0 other, one-at count who.0 li),
      ))
      in absurd (omega (
        arith,
        all,
        sum_by-set (λ x. x) (ones count) k 0 0 (omega (arith, length-ones count, lk)),
        one-at count k lk,
        sum-ones count,
        fits,
      ))
]

-- Index `i` may be inserted at the slot at which the probe for `i` ends.
pub may_end : (hashes : List ℕ) (slots : List (Option ℕ)) (i m : ℕ) → m < length slots → home_at (length slots) hashes i < length slots
    → Passed (displacement hashes slots) (length slots) (home_at (length slots) hashes i) m
    → displacement hashes slots (onward (length slots) (home_at (length slots) hashes i) m) ≤ m
    → MayStand hashes slots i (onward (length slots) (home_at (length slots) hashes i) m)
may_end hashes slots i m lm lh passed stop =
    let n : ℕ = length slots in
    let h : ℕ = home_at n hashes i in
    let is : distance n h (onward n h m) ≡ m = distance-onward n h m lh lm in
    record {
      within = onward-below n h m lh (omega arith);
      further = omega arith;
      led_to = λ q lq at. elim (cases_lt 0 m) [
        | inl pos ↦
            let k : ℕ = m - 1 in
            let back : after n (onward n h k) ≡ onward n h m = after-onward n h k lh (omega arith) ∙ ap (onward n h) (omega arith) in
            let same : q ≡ onward n h k = after-injective n q (onward n h k) lq (onward-below n h k lh (omega arith)) (at ∙ sym back) in
            omega (arith, passed.far k (omega arith), ap (displacement hashes slots) same)
        | inr start ↦ omega arith
      ];
    }

-- If a slot is empty, a probe does not pass all slots.
pub not_round : (displacements : ℕ → ℕ) (n h e : ℕ) → h < n → e < n → displacements e ≡ 0 → Passed displacements n h n → ⊥
not_round displacements n h e lh le none passed =
    let there : onward n h (distance n h e) ≡ e = onward-distance n h e lh le in
    let far = passed.far (distance n h e) (distance-below n h e lh le) in
    omega (arith, far, ap displacements there, none)
