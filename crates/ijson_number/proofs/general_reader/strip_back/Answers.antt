use Rattle.ijson_number.proofs.Common.{length, arith, ◌≡◌}
use Rattle.ijson_number.proofs.parsing.DigitValues.{back_zeros}
use Rattle.ijson_number.proofs.general_reader.strip_back.Goals as goal

pub returns-then-is_empty-clause-zeros : goal.returns-then-is_empty-clause-zeros
returns-then-is_empty-clause-zeros c =
    let n : length c.trim_trailing_zeros-tail.result.now ≡ 0 = grind arith in
    back_zeros c.args.front.now c.args.back.now c.trim_trailing_zeros.result.now c.trim_trailing_zeros-tail.result.now _ _
    c.trim_trailing_zeros.ensures.zeros c.trim_trailing_zeros-tail.ensures.zeros n
