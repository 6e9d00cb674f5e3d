-- A hash and its kept part have the same home slot.
use Rattle.std.proofs.Common.{◌≡◌, ℕ, ◌*◌, ◌%◌, ◌<◌, ◌≤◌, arith, true, false, leb, refl}
use Rattle.std.specs.Prelude.{if◌then◌else◌}
use Rattle.std.proofs.lemmas.Bool.Decides.{nat_tests}
use Rattle.ijson_table.specs.private.KeptHash.{narrow_slots, kept}
use Rattle.ijson_table.proofs.arithmetic.Reciprocal.{mod-more}

-- A hash and its kept part have the same home slot.
pub kept-home : (n h : ℕ) → kept n h % n ≡ h % n
unfolding kept
kept-home n h = elim (leb n narrow_slots) as (λ b. (if b then h % (n * 256) else h) % n ≡ h % n) [ true ↦ mod-more h n | false ↦ refl ]

-- In a table of more than `narrow_slots` slots, the kept part of a hash is the full hash.
pub kept-wide : (n h : ℕ) → narrow_slots < n → kept n h ≡ h
unfolding kept
kept-wide n h wide = grind (arith, nat_tests, wide)

-- In a table of at most `narrow_slots` slots, the kept part of a hash is its remainder by
-- `n * 256`.
pub kept-narrow : (n h : ℕ) → n ≤ narrow_slots → kept n h ≡ h % (n * 256)
unfolding kept
kept-narrow n h few = grind (arith, nat_tests, few)
