-- The number of inspections of a lookup is within the bounds, wherever the lookup ends.
use Rattle.std.proofs.Common.{◌≡◌, ◌≢◌, ℕ, zero, suc, ◌+◌, ◌<◌, ◌≤◌, inl, inr, arith, List, length, map, get_or, replicate, Option, Some}
use Rattle.std.proofs.Common.{None, refl, ap, subst}
use Rattle.std.specs.Prelude.{sum}
use Rattle.std.proofs.lemmas.List.{length-map}
use Rattle.std.proofs.lemmas.List.Sums.{sum_by-cons}
use Rattle.std.proofs.Math.Nat.{mod-lt}
use Rattle.std.proofs.lemmas.Bool.{cases_lt}
use Rattle.ijson_table.specs.Crowd.{distance, home_of, slot_count}
use Rattle.ijson_table.specs.Slots.{displacement, resident, IsTable, IsBounded}
use Rattle.ijson_table.specs.private.Probe.{onward, Passed}
use Rattle.ijson_table.proofs.arithmetic.Circular.{onward-below, distance-onward}
use Rattle.ijson_table.proofs.arithmetic.Counting.{covers}
use Rattle.ijson_table.proofs.probing.ProbePath.{reached, displacement-none, one_slot, in_list}
use Rattle.ijson_table.proofs.probing.CrowdBound.{within_crowd}
use Rattle.ijson_table.proofs.slots.Residents.{some_position}

-- The list of `n` ones.
pub ones : ℕ → List ℕ
ones n = replicate n 1

-- The sum of `n` ones is `n`.
pub sum-ones : (n : ℕ) → sum (ones n) ≡ n
unfolding ones
sum-ones zero = refl
sum-ones (suc n) = omega (arith, sum_by-cons (λ x. x) 1 (replicate n 1), sum-ones n)

-- Each element of `ones n` is 1.
pub one-at : (n i : ℕ) → i < n → get_or (ones n) i 0 ≡ 1
unfolding ones
one-at zero i li = absurd (omega arith)
one-at (suc n) zero li = refl
one-at (suc n) (suc i) li = one-at n i (omega arith)

-- The length of `ones n` is `n`.
pub length-ones : (n : ℕ) → length (ones n) ≡ n
unfolding ones
length-ones zero = refl
length-ones (suc n) = ap suc (length-ones n)

module _ (hashes : List ℕ) (slots : List (Option ℕ)) (t : IsTable hashes slots) where
  -- The number of slots that a probe passes is at most the number of indices.
  pub within_list : (h m : ℕ) → h < length slots → m ≤ length slots → Passed (displacement hashes slots) (length slots) h m
      → m ≤ length hashes
  within_list h m lh lm passed =
      let n : ℕ = length slots in
      let R : ℕ → ℕ → Type 0 = λ i j. resident slots (onward n h j) ≡ Some i in
      let all : m ≤ sum (ones (length hashes)) = covers m R (ones (length hashes))
      (λ i j l lj ll a b.
      let same : onward n h j ≡ onward n h l = one_slot hashes slots t (onward n h j) (onward n h l) i
      (onward-below n h j lh (omega arith)) (onward-below n h l lh (omega arith)) a b in
      omega (arith, distance-onward n h j lh (omega arith), distance-onward n h l lh (omega arith), ap (distance n h) same))
      (λ j lj.
      let who = reached hashes slots (onward n h j) (omega (arith, passed.far j lj)) in
      let li : who.0 < length hashes = in_list hashes slots t (onward n h j) who.0 (onward-below n h j lh (omega arith)) who.1 in
      (who.0, omega (arith, length-ones (length hashes), li), who.1, omega (arith, one-at (length hashes) who.0 li)))
      in omega (arith, sum-ones (length hashes))

  -- If all slots have residents, the number of slots is at most the number of indices.
  filled : ((p : ℕ) → p < length slots → resident slots p ≢ None) → length slots ≤ length hashes
  filled full =
      let R : ℕ → ℕ → Type 0 = λ i j. resident slots j ≡ Some i in
      let all : length slots ≤ sum (ones (length hashes)) = covers (length slots) R (ones (length hashes))
      (λ i j l lj ll a b. one_slot hashes slots t j l i lj ll a b)
      (λ j lj.
      let who = some_position (resident slots j) (full j lj) in
      let li : who.0 < length hashes = in_list hashes slots t j who.0 lj who.1 in
      (who.0, omega (arith, length-ones (length hashes), li), who.1, omega (arith, one-at (length hashes) who.0 li)))
      in omega (arith, sum-ones (length hashes))

module _ (hash : List ℕ → ℕ) (keys : List (List ℕ)) (slots : List (Option ℕ)) (t : IsTable (map hash keys) slots) where
  abbrev hashes : List ℕ
  hashes = map hash keys

  -- If a lookup passes `m` slots and inspects at most `m + 1` slots, the number of inspections is
  -- within the bounds.
  bounded_by : (c : ℕ) → length slots ≡ slot_count c → (key : List ℕ) (m looks : ℕ) → 0 < looks → m ≤ length slots
      → looks ≤ length slots → looks ≤ m + 1
      → Passed (displacement hashes slots) (length slots) (home_of hash (length slots) key) m → IsBounded hash keys slots c key looks
  bounded_by c size key m looks some lm within is passed = record {
    some_empty = λ p lp none. omega (
      arith,
      is,
      within_crowd hash keys slots t c size key m p lm lp (displacement-none hashes slots p none) passed,
    );
    none_empty = λ full. omega (arith, within, filled hashes slots t full, length-map keys hash);
    always = omega (
      arith,
      is,
      within_list hashes slots t (home_of hash (length slots) key) m (mod-lt (hash key) (omega (arith, some, within))) lm passed,
      length-map keys hash,
    );
    some_look = λ _. some;
  }

  -- If a lookup ends at the slot after the `m` slots that it passes, the number of inspections is
  -- within the bounds.
  pub bounded_there : (c : ℕ) → length slots ≡ slot_count c → (key : List ℕ) (m looks : ℕ) → m < length slots → looks ≡ m + 1
      → Passed (displacement hashes slots) (length slots) (home_of hash (length slots) key) m → IsBounded hash keys slots c key looks
  bounded_there c size key m looks lm is passed =
      bounded_by c size key m looks (omega arith) (omega arith) (omega arith) (omega arith) passed

  -- If a lookup passes all slots, the number of inspections is within the bounds.
  pub bounded_all : (c : ℕ) → length slots ≡ slot_count c → (key : List ℕ) (looks : ℕ) → looks ≡ length slots
      → Passed (displacement hashes slots) (length slots) (home_of hash (length slots) key) (length slots)
      → IsBounded hash keys slots c key looks
  bounded_all c size key looks is passed = elim (cases_lt 0 (length slots)) [
    | inl some ↦ bounded_by c size key (length slots) looks (omega arith) (omega arith) (omega arith) (omega arith) passed
    | inr empty ↦ record {
      some_empty = λ p lp none. omega arith;
      none_empty = λ full. omega arith;
      always = omega arith;
      some_look = λ some. omega arith;
    }
  ]

-- Every probe passes 0 slots.
pub passed_none : (displacements : ℕ → ℕ) (n h : ℕ) → Passed displacements n h 0
passed_none displacements n h = record { far = λ j lj. absurd (omega arith) }

-- If a probe passes `m` slots, and the displacement of the next slot is at least `m + 1`, the probe
-- passes `m + 1` slots.
pub passed_more : (displacements : ℕ → ℕ) (n h m : ℕ) → Passed displacements n h m → m + 1 ≤ displacements (onward n h m)
    → Passed displacements n h (m + 1)
passed_more displacements n h m passed far = record {
  far = λ j lj. elim (cases_lt j m) [
    | inl less ↦ passed.far j less
    | inr last ↦ let same : m ≡ j = omega arith in subst (λ k. k + 1 ≤ displacements (onward n h k)) same far
  ];
}
