use Rattle.ijson_number.proofs.Common.{◌<◌, ◌^◌, sym, arith, number_more}
use Rattle.ijson_number.proofs.storing.WholeValues.{number_so_far}
use Rattle.ijson_number.proofs.integers.number_of_digits.Goals as goal

pub overflow_mul-number : goal.overflow_mul-number
overflow_mul-number c =
    let s : c.loop-digit.number < 10 ^ 19 =
    rw c.loop-digit.invariant
    (number_so_far c.args.digits.now c.loop-digit.digit-index c.requires.below_ten c.loop-digit-test.true c.requires.fits) in
    grind (arith, s)

pub overflow_add-number : goal.overflow_add-number
overflow_add-number c =
    let s : c.loop-digit.number < 10 ^ 19 =
    rw c.loop-digit.invariant
    (number_so_far c.args.digits.now c.loop-digit.digit-index c.requires.below_ten c.loop-digit-test.true c.requires.fits) in
    let d = c.requires.below_ten c.loop-digit.digit-index 0 c.loop-digit-test.true in
    let f = c.from.ensures in
    grind (arith, s, d, f)

pub loop-digit-preserved : goal.loop-digit-preserved
loop-digit-preserved c =
    rw (c.loop-digit.invariant, c.from.ensures) (sym (number_more 10 c.args.digits.now c.loop-digit.digit-index c.loop-digit-test.true))
