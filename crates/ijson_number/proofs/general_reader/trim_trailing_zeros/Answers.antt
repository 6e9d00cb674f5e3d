use Rattle.ijson_number.proofs.Common.{arith}
use Rattle.ijson_number.proofs.parsing.DigitRuns.{zeros_from}
use Rattle.ijson_number.proofs.general_reader.trim_trailing_zeros.Goals as goal

pub loop-end-preserved : goal.loop-end-preserved
loop-end-preserved c = record {
  inside = omega arith;
  zeros = zeros_from c.args.digits.now c.loop-end.end (omega arith) (omega arith) c.if-digits-end-eq48.true c.loop-end.invariant.zeros;
}
