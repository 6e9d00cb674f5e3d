use Rattle.ijson_number.proofs.Common.{◌≡◌, ℕ, ◌^◌, ◌<◌, Bool, min, length, refl, arith, ℤ, pos, neg_ℤ, ◌+ℤ◌, ◌-ℤ◌, ◌≤ℤ◌, ints, w128, to_z, of_z}
use Rattle.ijson_number.proofs.Common.{signed, value, IsWithin}
use Rattle.ijson_number.proofs.parsing.Exponents.{capped_within, w32_within, within_capped}
use Rattle.ijson_number.proofs.general_reader.canonical_exponent.Goals.{After-written_exponent, then-exponent-via-then-exponent}
use Rattle.ijson_number.proofs.general_reader.canonical_exponent.Goals.{then-exponent-via-else-exponent+then-exponent-gt-EXPONENT_LIMIT}
use Rattle.ijson_number.proofs.general_reader.canonical_exponent.Goals as goal

-- Computing the exponent does not overflow 128 bits.
sum_is : (negative : Bool) (v f t : ℕ) (w : ℤ) → f < 2 ^ 64 → t < 2 ^ 65 → w ≡ signed negative (min v (2 ^ 80))
    → to_z w128 (of_z w128 (to_z w128 (of_z w128 w) +ℤ to_z w128 (of_z w128 (to_z w128 t -ℤ to_z w128 f)))) ≡ w +ℤ (pos t -ℤ pos f)
sum_is negative v f t w few many is =
    let low : neg_ℤ (pos (2 ^ 80)) ≤ℤ w = grind (arith, ints) in
    let high : w ≤ℤ pos (2 ^ 80) = grind (arith, ints) in
    omega (arith, ints)

-- The computed exponent is the written exponent plus `tens` minus the number of fraction digits.
sum_at : (c : After-written_exponent) → let w : ℤ = c.written_exponent.result in
    let tens = c.args.tens in
    let places = length c.args.tail.now.fraction.now in
    to_z w128 (of_z w128 (to_z w128 (of_z w128 w) +ℤ to_z w128 (of_z w128 (to_z w128 tens -ℤ to_z w128 places))))
    ≡ w +ℤ (pos tens -ℤ pos places)
sum_at c =
    let tail = c.args.tail.now in
    sum_is tail.negative (value tail.exponent.now) (length tail.fraction.now) c.args.tens c.written_exponent.result (grind arith)
    c.requires.tens c.written_exponent.ensures

pub returns-then-exponent-clause-none : goal.returns-then-exponent-clause-none
returns-then-exponent-clause-none c = λ h.
    let tail = c.args.tail.now in
    let w : ℤ = c.written_exponent.result in
    let exact = sum_at (goal.at.returns-then-exponent-clause-none c).After-written_exponent in
    let within = within_capped tail.negative (value tail.exponent.now) (length tail.fraction.now) c.args.tens w
    (w +ℤ (pos c.args.tens -ℤ pos (length tail.fraction.now))) (grind arith) c.requires.tens c.written_exponent.ensures refl h in
    let low = within.0 in
    let high = within.1 in
    elim c.then-exponent.branch [
      | then-exponent-via-then-exponent b ↦ (let test = b.if-exponent.true in omega (arith, ints, exact, low, test))
      | then-exponent-via-else-exponent+then-exponent-gt-EXPONENT_LIMIT b ↦
          (let test = b.if-exponent-gt-EXPONENT_LIMIT.true in omega (arith, ints, exact, high, test))
    ]

pub returns-clause-some : goal.returns-clause-some
returns-clause-some c =
    let tail = c.args.tail.now in
    let w : ℤ = c.written_exponent.result in
    let e : ℤ = w +ℤ (pos c.args.tens -ℤ pos (length tail.fraction.now)) in
    let exact = sum_at (goal.at.returns-clause-some c).After-written_exponent in
    let low = c.if-exponent.false in
    let high = c.if-exponent-gt-EXPONENT_LIMIT.false in
    let within : IsWithin e = (omega (arith, ints, exact, low), omega (arith, ints, exact, high)) in
    rw (exact, w32_within e within) (
      capped_within tail.negative (value tail.exponent.now) (length tail.fraction.now) c.args.tens w e (grind arith) c.requires.tens
          c.written_exponent.ensures refl within,
      within,
    )
