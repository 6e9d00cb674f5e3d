use Rattle.ijson_number.proofs.Common.{◌<◌, ◌+◌, length, arith}
use Rattle.ijson_number.proofs.storing.WholeValues.{large_mantissa}
use Rattle.ijson_number.proofs.repr.stored.StrippedNumber.mantissa_with.Goals as goal

pub returns-then-zeros-self-clause-none : goal.returns-then-zeros-self-clause-none
returns-then-zeros-self-clause-none c =
    let n = c.args.self.now in
    let some : 0 < length n.digits.now = grind arith in
    let many : 20 < c.args.zeros + length n.digits.now = omega (arith, c.if-zeros-self.true) in
    large_mantissa n.negative n.digits.now c.args.zeros n.stripped.stripped some many
