use Rattle.ijson_number.proofs.Common.{rules, pos, ◌<ℤ◌, to_z-of_z, w32, decimal_of}
use Rattle.ijson_number.proofs.BooleanTests.{test_below}
use Rattle.ijson_number.proofs.storing.WholeValues.{fraction_cmp, large_value}
use Rattle.ijson_number.proofs.repr.stored.StrippedNumber.whole.Goals as goal

pub returns-then-self-lt0-clause-none : goal.returns-then-self-lt0-clause-none
returns-then-self-lt0-clause-none c = λ z small v.
    let n = c.args.self.now in
    let below : n.exponent <ℤ pos 0 = test_below n.exponent (pos 0) (rw (to_z-of_z w32 n.exponent (search rules)) at c.if-self-lt0.true) in
    fraction_cmp (decimal_of n) z n.num.plain below v

pub returns-clause-none : goal.returns-clause-none
returns-clause-none c =
    let n = c.args.self.now in
    large_value (decimal_of n) c.mantissa_with.result n.num.plain (rw (to_z-of_z w32 n.exponent (search rules)) at c.mantissa_with.ensures.none)
