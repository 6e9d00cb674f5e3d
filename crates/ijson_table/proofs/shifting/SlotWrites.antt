-- Displacements and order after a slot is written.
use Rattle.std.proofs.Common.{◌≡◌, ◌≢◌, ℕ, ◌+◌, ◌<◌, ◌≤◌, inl, inr, arith, List, length, set, Option, Some, None, sym, ap, ◌∙◌}
use Rattle.std.proofs.Common.{get_or-set_other, get_or-set_same}
use Rattle.std.proofs.lemmas.Bool.Decides.{nat_tests}
use Rattle.std.proofs.lemmas.List.{length-set}
use Rattle.std.proofs.lemmas.Bool.{cases_eq}
use Rattle.ijson_table.specs.Crowd.{distance}
use Rattle.ijson_table.specs.private.Holds.{Holds, MayStand}
use Rattle.ijson_table.specs.Slots.{after, displacement, resident, home_at, displaced, IsOrdered}
use Rattle.ijson_table.specs.private.Probe.{onward}
use Rattle.ijson_table.proofs.arithmetic.Circular.{after-below, after-injective, distance-below, onward-distance, distance-after}
use Rattle.ijson_table.proofs.slots.Residents.{times-set}
use Rattle.ijson_table.proofs.probing.ProbePath.{displacement-some, from_empty}
use Rattle.ijson_table.proofs.probing.CrowdBound.{home-below}

module _ (hashes : List ℕ) (slots : List (Option ℕ)) where
  -- The displacement of a written slot is the displacement of the new resident.
  pub displacement-set_same : (p : ℕ) (o : Option ℕ) → p < length slots
      → displacement hashes (set slots p o) p ≡ displaced (length slots) hashes p o
  unfolding displacement
  displacement-set_same p o lp = ap (λ n. displaced n hashes p (resident (set slots p o) p)) (length-set slots p o)
      ∙ ap (displaced (length slots) hashes p) (get_or-set_same slots p o None lp)

  -- Writing a slot keeps the displacement of every other slot.
  pub displacement-set_other : (p q : ℕ) (o : Option ℕ) → q ≢ p → displacement hashes (set slots p o) q ≡ displacement hashes slots q
  unfolding displacement
  displacement-set_other p q o ne = ap (λ n. displaced n hashes q (resident (set slots p o) q)) (length-set slots p o)
      ∙ ap (displaced (length slots) hashes q) (get_or-set_other slots p q o None ne)

-- If `f` is ordered, `g` differs from `f` only at slot `p`, and `g` is ordered from the slot before
-- `p` to the slot after `p`, then `g` is ordered.
pub ordered_but : (f g : ℕ → ℕ) (n p : ℕ) → ((q : ℕ) → q < n → f (after n q) ≤ f q + 1) → ((q : ℕ) → q ≢ p → g q ≡ f q)
    → g (after n p) ≤ g p + 1 → ((q : ℕ) → q < n → q ≢ p → after n q ≡ p → g p ≤ g q + 1) → (q : ℕ) → q < n → g (after n q) ≤ g q + 1
ordered_but f g n p ordered same next before q lq = elim (cases_eq q p) [
  | inl self ↦ omega (arith, next, ap g self, ap (λ r. g (after n r)) self)
  | inr other ↦ elim (cases_eq (after n q) p) [
    | inl to ↦ omega (arith, before q lq other to, ap g to)
    | inr away ↦ omega (arith, ordered q lq, same q other, same (after n q) away)
  ]
]

-- Writing a slot keeps the slots ordered if the displacement of the slot does not decrease and
-- exceeds the displacement of the previous slot by at most 1.
raised : (hashes : List ℕ) (slots : List (Option ℕ)) (p : ℕ) (o : Option ℕ) → p < length slots → IsOrdered hashes slots
    → displacement hashes slots p ≤ displacement hashes (set slots p o) p
    → ((q : ℕ) → q < length slots → after (length slots) q ≡ p → displacement hashes (set slots p o) p ≤ displacement hashes slots q + 1)
    → IsOrdered hashes (set slots p o)
raised hashes slots p o lp ordered more bound q lq =
    let n : ℕ = length slots in
    let d : ℕ → ℕ = displacement hashes (set slots p o) in
    let size : length (set slots p o) ≡ n = length-set slots p o in
    let same : (r : ℕ) → r ≢ p → d r ≡ displacement hashes slots r = λ r ne. displacement-set_other hashes slots p r o ne in
    let next : d (after n p) ≤ d p + 1 = elim (cases_eq (after n p) p) [
      | inl self ↦ omega (arith, ap d self)
      | inr away ↦ omega (arith, ordered p lp, more, same (after n p) away)
    ] in
    omega (
      arith,
      ordered_but (displacement hashes slots) d n p ordered same next
          (λ r lr ne to. omega (arith, bound r lr to, same r ne)) q (omega (arith, lq, size)),
      ap (λ k. d (after k q)) size,
    )

-- If the pending index may be inserted at slot `p`, writing it to `p` keeps `Holds`, with the old
-- resident of `p` as the pending index.
pub put_down : (hashes : List ℕ) (wanted : ℕ → ℕ) (slots : List (Option ℕ)) (k p : ℕ) → p < length slots
    → Holds hashes wanted (Some k) slots
    → MayStand hashes slots k p → Holds hashes wanted (resident slots p) (set slots p (Some k))
put_down hashes wanted slots k p lp held may =
    let now : displacement hashes (set slots p (Some k)) p ≡ distance (length slots) (home_at (length slots) hashes k) p + 1 =
    displacement-set_same hashes slots p (Some k) lp in
    record {
      ordered = raised hashes slots p (Some k) lp held.ordered (omega (arith, may.further, now))
          (λ q lq at. omega (arith, may.led_to q lq at, now));
      placed = λ i. omega (arith, times-set i slots p (Some k) lp, held.placed i);
    }

-- If slot `p` is the slot after itself, every slot is `p`.
apart_of : (n e p : ℕ) → p < n → e < n → after n p ≡ p → (e ≢ p) → ⊥
unfolding after
apart_of n e p lp le same ne = ne (grind (arith, nat_tests))

-- If ordered slots include an empty slot, and index `k` is displaced in slot `p` at least as far as
-- the resident of `p`, that resident may be inserted at the next slot after `k` is written to `p`.
pub taken_up : (hashes : List ℕ) (slots : List (Option ℕ)) (k j p e : ℕ) → p < length slots → e < length slots → IsOrdered hashes slots
    → displacement hashes slots e ≡ 0 → resident slots p ≡ Some j
    → displacement hashes slots p ≤ distance (length slots) (home_at (length slots) hashes k) p + 1
    → MayStand hashes (set slots p (Some k)) j (after (length slots) p)
taken_up hashes slots k j p e lp le ordered none there less =
    let n : ℕ = length slots in
    let got : displacement hashes slots (onward n e (distance n e p)) ≤ distance n e p =
    from_empty hashes slots ordered e le none (distance n e p) (distance-below n e p le lp) in
    let here : displacement hashes slots (onward n e (distance n e p)) ≡ displacement hashes slots p =
    ap (displacement hashes slots) (onward-distance n e p le lp) in
    let was : displacement hashes slots p ≡ distance n (home_at n hashes j) p + 1 = displacement-some hashes slots p j there in
    let short : distance n (home_at n hashes j) p + 1 < n = omega (arith, distance-below n e p le lp) in
    let next : distance n (home_at n hashes j) (after n p) ≡ distance n (home_at n hashes j) p + 1 =
    distance-after n (home_at n hashes j) p (home-below n hashes j (omega arith)) lp short in
    let put : displacement hashes (set slots p (Some k)) p ≡ distance n (home_at n hashes k) p + 1 =
    displacement-set_same hashes slots p (Some k) lp in
    let apart : after n p ≢ p = λ same.
    let zero_or : displacement hashes slots (after n p) ≤ displacement hashes slots p + 1 = ordered p lp in
    apart_of n e p lp le same (λ eq. omega (arith, ap (displacement hashes slots) eq)) in
    let size : length (set slots p (Some k)) ≡ n = length-set slots p (Some k) in
    let at_home : distance (length (set slots p (Some k))) (home_at (length (set slots p (Some k))) hashes j) (after n p) ≡ distance n
    (home_at n hashes j) (after n p) = ap (λ s. distance s (home_at s hashes j) (after n p)) size in
    record {
      within = omega (arith, after-below n p lp, size);
      further = omega (arith, ordered p lp, displacement-set_other hashes slots p (after n p) (Some k) apart, at_home);
      led_to = λ q lq at.
          let same : q ≡ p = after-injective n q p (omega arith) lp (ap (λ s. after s q) (sym size) ∙ at) in
          omega (arith, ap (displacement hashes (set slots p (Some k))) same, at_home);
    }
