-- A lower bound of a sum, the first zero of a function, and the maximum of a function.
use Rattle.std.proofs.Common.{◌≡◌, ◌≢◌, ℕ, zero, suc, ◌<◌, ◌≤◌, arith, List, length, get_or, set, true, false, eqb, ap}
use Rattle.std.proofs.Common.{max, refl, subst, get_or-set_other}
use Rattle.std.specs.Prelude.{sum}
use Rattle.std.proofs.lemmas.List.{length-set}
use Rattle.std.proofs.lemmas.List.Sums.{sum_by-set}
use Rattle.std.proofs.lemmas.Bool.Decides.{nat_tests}
use Rattle.ijson_table.specs.Crowd.{greatest_below}

-- If `R` relates each number below `k` to an index at which `ns` is not 0, and relates no index to
-- two numbers, then `ns` sums to at least `k`.
pub covers : (k : ℕ) (R : ℕ → ℕ → Type 0) (ns : List ℕ) → ((i j l : ℕ) → j < k → l < k → R i j → R i l → j ≡ l)
    → ((j : ℕ) → j < k → (i : ℕ) × (i < length ns) × R i j × (1 ≤ get_or ns i 0)) → k ≤ sum ns
covers zero R ns alone h = omega arith
covers (suc k) R ns alone h =
    let last = h k (omega arith) in
    let i : ℕ = last.0 in
    let rest : k ≤ sum (set ns i 0) = covers k R (set ns i 0) (λ x j l lj ll. alone x j l (omega arith) (omega arith)) (λ j lj.
    let one = h j (omega arith) in
    let ne : one.0 ≢ i = λ e. let same : j ≡ k = alone i j k (omega arith) (omega arith) (subst (λ x. R x j) e one.2) last.2 in
    omega arith in
    (one.0, omega (arith, length-set ns i 0, one.1), one.2, omega (arith, get_or-set_other ns i one.0 0 0 ne, one.3))) in
    omega (arith, sum_by-set (λ x. x) ns i 0 0 last.1, last.3, rest)

-- If `f` is positive at 0 and at the successor of each number below `t`, then `f` is positive at
-- each number below `t + 1`.
later : (f : ℕ → ℕ) → 0 < f 0 → (t : ℕ) → ((j : ℕ) → j < t → 0 < f (suc j)) → (j : ℕ) → j < suc t → 0 < f j
later f first t h zero lj = first
later f first t h (suc j) lj = h j (omega arith)

-- If `f d` is 0, there is a least number at which `f` is 0.
pub nearest : (d : ℕ) (f : ℕ → ℕ) → f d ≡ 0 → (t : ℕ) × (t ≤ d) × (f t ≡ 0) × ((j : ℕ) → j < t → 0 < f j)
nearest zero f e = (0, omega arith, e, λ j lj. absurd (omega arith))
nearest (suc d) f e = elim (eqb (f 0) 0) as (λ b. eqb (f 0) 0 ≡ b → (t : ℕ) × (t ≤ suc d) × (f t ≡ 0) × ((j : ℕ) → j < t → 0 < f j)) [
  | true ↦ λ at. (0, omega arith, grind (arith, nat_tests), λ j lj. absurd (omega arith))
  | false ↦ λ at.
      let first : 0 < f 0 = grind (arith, nat_tests) in
      let rest = nearest d (λ j. f (suc j)) e in
      (suc rest.0, omega (arith, rest.1), rest.2, λ j lj. later f first rest.0 rest.3 j lj)
] refl

-- The maximum of `f` below `k` is at least each value of `f` below `k`.
pub greatest-at : (k : ℕ) (f : ℕ → ℕ) (s : ℕ) → s < k → f s ≤ greatest_below k f
greatest-at zero f s h = absurd (omega arith)
greatest-at (suc k) f s h = elim (eqb s k) as (λ b. eqb s k ≡ b → f s ≤ max (f k) (greatest_below k f)) [
  | true ↦ λ e. let same : s ≡ k = grind (arith, nat_tests) in omega (arith, ap f same)
  | false ↦ λ e. let lt : s < k = grind (arith, nat_tests) in omega (arith, greatest-at k f s lt)
] refl
