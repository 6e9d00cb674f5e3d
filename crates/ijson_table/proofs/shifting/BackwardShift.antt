-- Invariants of the backward shift of a removal.
use Rattle.std.proofs.Common.{◌≡◌, ◌≢◌, ℕ, zero, suc, ◌+◌, ◌<◌, ◌≤◌, inl, inr, arith, List, length, set, Option, Some, None, refl, sym, ap}
use Rattle.std.proofs.Common.{◌∙◌, get_or-set_other, get_or-set_same}
use Rattle.std.proofs.lemmas.List.{length-set}
use Rattle.std.proofs.lemmas.Bool.{cases_eq}
use Rattle.ijson_table.specs.Crowd.{distance}
use Rattle.ijson_table.specs.private.Holds.{one_if}
use Rattle.ijson_table.specs.Slots.{after, displacement, resident, home_at, times, IsOrdered}
use Rattle.ijson_table.proofs.arithmetic.Circular.{after-below, distance-back}
use Rattle.ijson_table.proofs.slots.Residents.{times-set}
use Rattle.ijson_table.proofs.probing.ProbePath.{displacement-some}
use Rattle.ijson_table.proofs.probing.CrowdBound.{home-below}
use Rattle.ijson_table.proofs.shifting.SlotWrites.{displacement-set_other, displacement-set_same, ordered_but}

-- Holds if the slots are ordered slots from which the resident of slot `p` is removed.
pub record HasGap (hashes : List ℕ) (slots : List (Option ℕ)) (p : ℕ) : Type 0 where
  pub whole : List (Option ℕ)
  pub is : slots ≡ set whole p None
  pub within : p < length whole
  pub ordered : IsOrdered hashes whole

-- The sum of `f` at the numbers below `n`. For the displacements, this sum decreases with each step
-- of the backward shift.
pub total : (ℕ → ℕ) → ℕ → ℕ
total f zero = 0
total f (suc n) = total f n + f n

-- Functions that agree below `n` have the same sum.
total-same : (f g : ℕ → ℕ) (n : ℕ) → ((q : ℕ) → q < n → f q ≡ g q) → total f n ≡ total g n
unfolding total
total-same f g zero h = refl
total-same f g (suc n) h = let rest = total-same f g n (λ q lq. h q (omega arith)) in omega (arith, rest, h n (omega arith))

-- If two functions differ only at `p`, which is below `n`, their sums differ by as much as their
-- values at `p`.
total-one : (f g : ℕ → ℕ) (n p : ℕ) → p < n → ((q : ℕ) → q ≢ p → g q ≡ f q) → total g n + f p ≡ total f n + g p
unfolding total
total-one f g zero p lp h = absurd (omega arith)
total-one f g (suc n) p lp h = elim (cases_eq p n) [
  | inl at ↦ omega (arith, total-same g f n (λ q lq. h q (λ e. omega arith)), ap f at, ap g at)
  | inr other ↦ omega (arith, total-one f g n p (omega arith) h, h n (λ e. other (sym e)))
]

-- The sum of all displacements.
pub all_displacements : List ℕ → List (Option ℕ) → ℕ
all_displacements hashes slots = total (displacement hashes slots) (length slots)

module _ (hashes : List ℕ) (slots : List (Option ℕ)) (p : ℕ) (gap : HasGap hashes slots p) where
  abbrev n : ℕ
  n = length slots

  abbrev p' : ℕ
  p' = after n p

  abbrev d : ℕ → ℕ
  d = displacement hashes slots

  abbrev full : ℕ → ℕ
  full = displacement hashes gap.whole

  size : length gap.whole ≡ n
  size = sym (ap length gap.is ∙ length-set gap.whole p None)

  pub gap_within : p < n
  gap_within = omega (arith, gap.within, size)

  ordered : (q : ℕ) → q < n → full (after n q) ≤ full q + 1
  ordered q lq = omega (arith, gap.ordered q (omega (arith, lq, size)), ap (λ m. full (after m q)) size)

  hollow : d p ≡ 0
  hollow = ap (λ s. displacement hashes s p) gap.is ∙ displacement-set_same hashes gap.whole p None gap.within

  off : (q : ℕ) → q ≢ p → d q ≡ full q
  off q ne = ap (λ s. displacement hashes s q) gap.is ∙ displacement-set_other hashes gap.whole p q None ne

  -- If the slot after the gap is empty or its resident is in its home slot, the slots are ordered.
  pub gap_closed : d p' ≤ 1 → IsOrdered hashes slots
  gap_closed end = ordered_but full d n p ordered off (omega (arith, end)) (λ q lq ne to. omega (arith, hollow))

  -- In a step of the shift, the resident `k` of the next slot, which is not in its home slot, moves
  -- into the gap.
  module _ (k : ℕ) (there : resident slots p' ≡ Some k) (far : 1 < d p') where
    abbrev mid : List (Option ℕ)
    mid = set slots p (Some k)

    abbrev last : List (Option ℕ)
    last = set mid p' None

    abbrev d_mid : ℕ → ℕ
    d_mid = displacement hashes mid

    size_mid : length mid ≡ n
    size_mid = length-set slots p (Some k)

    behind_within : p' < length mid
    behind_within = omega (arith, after-below n p gap_within, size_mid)

    moves : p' ≢ p
    moves = λ e. omega (arith, ap d e, hollow, far)

    -- The displacement of the resident before the step. `nearer` states that the step decreases it
    -- by 1.
    was : d p' ≡ distance n (home_at n hashes k) p' + 1
    was = displacement-some hashes slots p' k there

    nearer : d_mid p + 1 ≡ d p'
    nearer = omega (
      arith,
      displacement-set_same hashes slots p (Some k) gap_within,
      distance-back n (home_at n hashes k) p (home-below n hashes k (omega (arith, gap_within))) gap_within (omega (arith, was, far)),
      was,
    )

    others : (q : ℕ) → q ≢ p → d_mid q ≡ d q
    others q ne = displacement-set_other hashes slots p q (Some k) ne

    in_order : (q : ℕ) → q < n → d_mid (after n q) ≤ d_mid q + 1
    in_order = ordered_but full d_mid n p ordered (λ q ne. others q ne ∙ off q ne) (omega (arith, nearer, others p' moves)) (λ q lq ne to. omega (
      arith,
      nearer,
      off p' moves,
      ordered q lq,
      ordered p gap_within,
      off q ne,
      others q ne,
      ap full to,
    ))

    pub moved_back : HasGap hashes last p'
    moved_back = record {
      whole = mid;
      is = refl;
      within = behind_within;
      ordered = λ q lq. omega (arith, in_order q (omega (arith, lq, size_mid)), ap (λ m. d_mid (after m q)) size_mid);
    }

    -- A step of the shift keeps the number of slots that hold index `i`.
    pub times-moved_back : (i : ℕ) → times i last ≡ times i slots
    times-moved_back i = omega (
      arith,
      times-set i slots p (Some k) gap_within,
      times-set i mid p' None behind_within,
      ap (one_if i) (ap (λ s. resident s p) gap.is ∙ get_or-set_same gap.whole p None None gap.within),
      ap (one_if i) (get_or-set_other slots p p' (Some k) None moves ∙ there),
    )

    -- A step of the shift decreases the sum of the displacements.
    pub shift_falls : all_displacements hashes last < all_displacements hashes slots
    unfolding all_displacements
    shift_falls = omega (
      arith,
      total-one d d_mid n p gap_within others,
      total-one d_mid (displacement hashes last) n p' (omega (arith, behind_within, size_mid))
          (λ q ne. displacement-set_other hashes mid p' q None ne),
      hollow,
      nearer,
      others p' moves,
      displacement-set_same hashes mid p' None behind_within,
      ap (total (displacement hashes last)) (length-set mid p' None ∙ size_mid),
    )
