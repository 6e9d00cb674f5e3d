use Rattle.ijson_number.proofs.Common.{◌+◌, inl, inr, arith, ints}
use Rattle.ijson_number.proofs.storing.WholeValues.{ten_out}
use Rattle.ijson_number.proofs.significand.Significand.strip_trailing_zeros.Goals as goal

pub loop-magnitude-preserved : goal.loop-magnitude-preserved
loop-magnitude-preserved c =
    let l = c.loop-magnitude in
    let tens = l.invariant.tens in
    record {
      tens = (tens.0 + 1, ten_out c.args.self.magnitude l.magnitude tens.0 (omega arith) tens.1, (let is = tens.2 in omega (arith, ints)));
      most = inl (omega (arith, ints));
    }

pub loop-magnitude-init : goal.loop-magnitude-init
loop-magnitude-init c = record { tens = (0, omega arith, omega (arith, ints)); most = inr (omega (arith, ints)) }
