use Rattle.ijson_number.proofs.Common.{◌≡◌, ◌∙◌, sym, refl, rules, arith, pos, FitsSigned, ints, to_z-of_z, w8, w32, w64, to_z, canonical_number}
use Rattle.ijson_number.proofs.storing.FormCases.{packed_is, packed_here, too_large_here, past_exponent}
use Rattle.ijson_number.proofs.significand.Significand.whole_word.Goals.{then-exponent-zeros+in_default, else-exponent-zeros}
use Rattle.ijson_number.proofs.significand.Significand.whole_word.Goals as goal

pub returns-in-Some-clause-word : goal.returns-in-Some-clause-word
returns-in-Some-clause-word c =
    let n = c.args.self in
    let k = c.loop-exponent.exponent in
    let below = c.loop-exponent-test.true in
    let fits : FitsSigned w32 n.exponent = search rules in
    let m = c.in-Some.mantissa in
    let exact : to_z w8 k ≡ pos k = omega (arith, ints) in
    let e = c.pointed.ensures in
    packed_is _ m _ (pos k) _ _ (rw (to_z-of_z w64 m (search rules)) at e.mantissa) (e.exponent ∙ exact) e.point
    ∙ sym (packed_here (canonical_number n) k c.requires.whole c.loop-exponent.invariant below m
    (omega (arith, rw (to_z-of_z w32 n.exponent fits) at c.if-exponent-zeros.true))
    (rw (to_z-of_z w32 n.exponent fits) at c.in-Some.ensures.some) c.in-Some.ensures.fits)

pub loop-exponent-preserved : goal.loop-exponent-preserved
loop-exponent-preserved c =
    let n = c.args.self in
    let k = c.loop-exponent.exponent in
    let below = c.loop-exponent-test.true in
    let fits : FitsSigned w32 n.exponent = search rules in
    elim c.if-exponent-zeros.branch [
      | then-exponent-zeros+in_default w ↦
          too_large_here (canonical_number n) k c.requires.whole c.loop-exponent.invariant below _
          (omega (arith, rw (to_z-of_z w32 n.exponent fits) at w.if-exponent-zeros.true)) refl
          (rw (to_z-of_z w32 n.exponent fits) at w.in_default.ensures.none)
      | else-exponent-zeros w ↦
          past_exponent (canonical_number n) k c.requires.whole c.loop-exponent.invariant below
          (omega (arith, rw (to_z-of_z w32 n.exponent fits) at w.if-exponent-zeros.false))
    ]

pub returns-clause-none : goal.returns-clause-none
returns-clause-none c =
    let end = c.loop-exponent.auto.exponent-end in
    let last : c.loop-exponent.exponent ≡ 8 = omega arith in
    rw last at c.loop-exponent.invariant
