use Rattle.ijson_number.proofs.Common.{◌<◌, ◌*◌, ◌^◌, arith}
use Rattle.ijson_number.proofs.storing.WholeValues.{scaled_small}
use Rattle.ijson_number.proofs.integers.scaled.Goals as goal

pub overflow_mul-result : goal.overflow_mul-result
overflow_mul-result c =
    let s : c.number_of_digits.result * c.pow.result < 10 ^ 20 =
    rw (c.number_of_digits.ensures, c.pow.ensures) (scaled_small c.args.digits.now c.args.zeros c.requires.below_ten c.requires.fits) in
    grind (arith, s)

pub returns-clause-small : goal.returns-clause-small
returns-clause-small c =
    rw (c.number_of_digits.ensures, c.pow.ensures) (scaled_small c.args.digits.now c.args.zeros c.requires.below_ten c.requires.fits)
