use Rattle.ijson_number.proofs.Common.{◌≡◌, ◌∙◌, ◌*◌, ap, sym, refl, arith, rules, pos, nat_abs, ◌<ℤ◌, to_z-of_z, w8, w64, of_z, to_z}
use Rattle.ijson_number.proofs.writing.WordTexts.{below_point, exponent_small, fraction_shown, many_places, whole_shown}
use Rattle.ijson_number.proofs.write_fast.push_pointed.Goals.{After-from-scale}
use Rattle.ijson_number.proofs.write_fast.push_pointed.Goals as goal

-- An exponent that is neither 0 nor positive is negative.
below : (c : After-from-scale) → c.args.exponent <ℤ pos 0
below c = below_point c.args.exponent _ (to_z-of_z w8 c.args.exponent (search rules)) (λ z. c.if-exponent-eq0.false (ap (of_z w8) z))
    c.if-exponent-gt0.false

scale_is : (c : After-from-scale) → c.from-scale.result ≡ nat_abs c.args.exponent
scale_is c = c.from-scale.ensures ∙ c.unsigned_abs.ensures.value ∙ ap nat_abs (to_z-of_z w8 c.args.exponent (search rules))

pub overflow_mul-magnitude : goal.overflow_mul-magnitude
overflow_mul-magnitude c =
    let exact = to_z-of_z w64 c.args.mantissa (search rules) in
    let same = c.unsigned_abs-magnitude.ensures.value ∙ ap nat_abs exact in
    omega (arith, same, c.requires.small)

pub push_decimal-requires-2 : goal.push_decimal-requires-2
push_decimal-requires-2 c =
    let at = (goal.at.push_decimal-requires-2 c).After-from-scale in
    omega (arith, scale_is at, exponent_small c.args.mantissa c.args.exponent (below at) c.requires.form)

pub returns-then-exponent-eq0-clause-pushed : goal.returns-then-exponent-eq0-clause-pushed
returns-then-exponent-eq0-clause-pushed c =
    let a = c.args in
    let n = c.unsigned_abs-magnitude in
    let exact = to_z-of_z w64 a.mantissa (search rules) in
    let none = sym (to_z-of_z w8 a.exponent (search rules)) ∙ ap (to_z w8) c.if-exponent-eq0.true in
    let text = whole_shown a.mantissa a.exponent _ n.result (n.result * 10) exact (n.ensures.value ∙ ap nat_abs exact) none n.type_inv refl in
    rw text at c.push_decimal.ensures

pub returns-clause-pushed : goal.returns-clause-pushed
returns-clause-pushed c =
    let a = c.args in
    let n = c.unsigned_abs-magnitude in
    let at = (goal.at.returns-clause-pushed c).After-from-scale in
    let scale = scale_is at in
    let exact = to_z-of_z w64 a.mantissa (search rules) in
    let many = many_places a.exponent _ c.from-scale.result n.result (to_z-of_z w8 a.exponent (search rules)) scale
    c.if-magnitude-lt10.either (below at) in
    rw (fraction_shown a.mantissa a.exponent _ n.result c.from-scale.result exact (n.ensures.value ∙ ap nat_abs exact) scale
    n.type_inv (below at) many c.requires.form) at c.push_decimal-2.ensures
