use Rattle.ijson_number.proofs.Common.{◌≡◌, ◌≢◌, ◌∙◌, sym, arith, rules, ℤ, pos, FitsSigned, slice_cmp, int_cmp, nat_cmp, ints, to_z-of_z, w128, Num}
use Rattle.ijson_number.proofs.Common.{stripped_digits}
use Rattle.ijson_number.specs.DigitRow.{leading_place}
use Rattle.ijson_number.specs.private.MagnitudeOrder.{magnitude_cmp}
use Rattle.ijson_number.proofs.comparing.NumberOrder.{some_digits, are_stripped}
use Rattle.ijson_number.proofs.comparing.MagnitudeOrder.{same_place_cmp, places_cmp}
use Rattle.ijson_number.proofs.comparison.compare_magnitudes.Goals as goal

-- In this module, `a` and `b` are nonzero numbers, and `x` and `y` are the positions of their
-- decimal points.
module _ (a b : Num) (some : a.decimal.mantissa ≢ pos 0) (some_other : b.decimal.mantissa ≢ pos 0) (x y : ℤ)
    (place : x ≡ leading_place a.decimal) (other_place : y ≡ leading_place b.decimal) where
  digits_decide : x ≡ y → slice_cmp nat_cmp (stripped_digits a.decimal) (stripped_digits b.decimal) ≡ magnitude_cmp a.decimal b.decimal
  digits_decide same = sym (same_place_cmp _ _ a.decimal.exponent b.decimal.exponent
      (are_stripped a.decimal a.is_num.plain some) (are_stripped b.decimal b.is_num.plain some_other)
      (some_digits a.decimal a.is_num.plain some) (some_digits b.decimal b.is_num.plain some_other) (cc))

  places_decide : (x ≡ y → ⊥) → int_cmp x y ≡ magnitude_cmp a.decimal b.decimal
  places_decide = places_cmp _ _ a.decimal.exponent b.decimal.exponent
      (are_stripped a.decimal a.is_num.plain some) (are_stripped b.decimal b.is_num.plain some_other)
      (some_digits a.decimal a.is_num.plain some) (some_digits b.decimal b.is_num.plain some_other) x y place other_place

pub returns-then-place-other_place-clause-order : goal.returns-then-place-other_place-clause-order
returns-then-place-other_place-clause-order g c =
    let f : FitsSigned w128 c.lead-place.result = search rules in
    let h : FitsSigned w128 c.lead-other_place.result = search rules in
    c.compare_digits.ensures.order ∙ digits_decide (g.D.DigitRow.num c.args.a.now) (g.D.DigitRow.num c.args.b.now) c.requires.some
    c.requires.some_other _ _ c.lead-place.ensures c.lead-other_place.ensures (omega (arith, ints, c.if-place-other_place.true))

pub returns-else-place-other_place-clause-order : goal.returns-else-place-other_place-clause-order
returns-else-place-other_place-clause-order g c =
    let f : FitsSigned w128 c.lead-place.result = search rules in
    let h : FitsSigned w128 c.lead-other_place.result = search rules in
    rw (to_z-of_z w128 _ f, to_z-of_z w128 _ h) at c.cmp.ensures
    ∙ places_decide (g.D.DigitRow.num c.args.a.now) (g.D.DigitRow.num c.args.b.now) c.requires.some c.requires.some_other _ _
    c.lead-place.ensures c.lead-other_place.ensures (λ same. c.if-place-other_place.false (cc))
