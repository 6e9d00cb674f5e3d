-- An index occurs in a list of slots if and only if the index is the resident of some slot.
use Rattle.std.proofs.Common.{◌≡◌, ◌≢◌, ℕ, suc, ◌+◌, ◌<◌, ◌≤◌, arith, List, [], ◌∷◌, length, set, take, zero, Option, Some, None}
use Rattle.std.proofs.Common.{inl, inr, refl, sym, ap, ◌∙◌, get_or-set_other}
use Rattle.std.proofs.lemmas.List.{length-set}
use Rattle.std.proofs.lemmas.Bool.{cases_eq, cases_lt}
use Rattle.std.proofs.lemmas.Bool.Decides.{nat_tests}
use Rattle.std.proofs.lemmas.List.Sums.{sum_by-cons, sum_by-set, get_or-le-sum_by}
use Rattle.ijson_table.specs.private.Holds.{one_if}
use Rattle.ijson_table.specs.Slots.{resident, times}

-- `one_if` is 1 for index `i` and resident `Some i`.
pub one_if-same : (i : ℕ) → one_if i (Some i) ≡ 1
one_if-same i = grind (arith, nat_tests)

-- If the resident `o` is index `i`, `one_if` is 1.
one_if-at : (i : ℕ) (o : Option ℕ) → o ≡ Some i → one_if i o ≡ 1
one_if-at i o e = ap (one_if i) e ∙ one_if-same i

-- Writing a slot adds 1 to the occurrences of index `i` if the new resident is `i`, and subtracts 1
-- if the old resident is `i`.
pub times-set : (i : ℕ) (slots : List (Option ℕ)) (p : ℕ) (o : Option ℕ) → p < length slots
    → times i (set slots p o) + one_if i (resident slots p) ≡ times i slots + one_if i o
unfolding times
times-set i slots p o h = sum_by-set (one_if i) slots p o None h

-- An index in a slot occurs at least once.
pub times-some : (i : ℕ) (slots : List (Option ℕ)) (p : ℕ) → p < length slots → resident slots p ≡ Some i → 1 ≤ times i slots
unfolding times
times-some i slots p h e = omega (arith, get_or-le-sum_by (one_if i) slots p None h, one_if-at i (resident slots p) e)

-- If `one_if` is positive, the resident `o` is index `i`.
pub held : (i : ℕ) (o : Option ℕ) → 0 < one_if i o → o ≡ Some i
held i None h = absurd (omega (arith, h))
held i (Some j) h = ap Some (grind (arith, nat_tests))

-- A slot that is not empty has an index.
pub some_position : (o : Option ℕ) → o ≢ None → (i : ℕ) × (o ≡ Some i)
some_position None not = absurd (not refl)
some_position (Some i) not = (i, refl)

-- An index occurs in `o ∷ slots` as often as in `slots`, and once more if `o` is the index.
pub times-cons : (i : ℕ) (o : Option ℕ) (slots : List (Option ℕ)) → times i (o ∷ slots) ≡ one_if i o + times i slots
unfolding times
times-cons i o slots = sum_by-cons (one_if i) o slots

-- An index that occurs is in a slot.
pub stands : (i : ℕ) (slots : List (Option ℕ)) → 0 < times i slots → (p : ℕ) × (p < length slots) × (resident slots p ≡ Some i)
unfolding times
stands i [] h = absurd (omega (arith, h))
stands i (o ∷ slots) h = elim (cases_lt 0 (one_if i o)) [
  | inl here ↦ (0, omega arith, held i o here)
  | inr none ↦ let rest = stands i slots (omega (arith, times-cons i o slots)) in (suc rest.0, omega (arith, rest.1), rest.2)
]

-- If an index occurs at most once, two slots that hold it are equal.
pub stands_once : (i : ℕ) (slots : List (Option ℕ)) (p q : ℕ) → times i slots ≤ 1 → p < length slots → q < length slots
    → resident slots p ≡ Some i → resident slots q ≡ Some i → p ≡ q
stands_once i slots p q h lp lq ep eq = elim (cases_eq q p) [
  | inl same ↦ sym same
  | inr ne ↦
      let there : resident (set slots p None) q ≡ Some i = get_or-set_other slots p q None None ne ∙ eq in
      absurd (omega (
        arith,
        times-set i slots p None lp,
        one_if-at i (resident slots p) ep,
        times-some i (set slots p None) q
            (omega (arith, length-set {A = Option ℕ})) there,
      ))
]

-- No index occurs in an empty list of slots.
pub times-nil : (i : ℕ) → times i [] ≡ 0
unfolding times
times-nil i = refl

-- An index occurs in the first `n + 1` slots as often as in the first `n` slots, and once more if
-- slot `n` holds the index.
pub times-more : (i : ℕ) (slots : List (Option ℕ)) (n : ℕ) → n < length slots
    → times i (take (suc n) slots) ≡ times i (take n slots) + one_if i (resident slots n)
unfolding times
times-more i [] n lt = absurd (omega (arith, lt))
times-more i (o ∷ slots) zero lt = omega (arith, times-cons i o [])
times-more i (o ∷ slots) (suc n) lt = omega (
  arith,
  times-cons i o (take (suc n) slots),
  times-cons i o (take n slots),
  times-more i slots n (omega (arith, lt)),
)
