use Rattle.ijson_number.proofs.Common.{◌-◌, length, append_assoc, arith, ◌≡◌}
use Rattle.ijson_number.proofs.parsing.DigitValues.{front_zeros}
use Rattle.ijson_number.proofs.general_reader.strip_front.Goals as goal

pub returns-then-is_empty-clause-zeros : goal.returns-then-is_empty-clause-zeros
returns-then-is_empty-clause-zeros c =
    let n : length c.trim_leading_zeros-front.result.now ≡ 0 = grind arith in (
      _,
      front_zeros c.args.whole.now c.args.fraction.now c.trim_leading_zeros-front.result.now c.trim_leading_zeros.result.now _ _
          c.trim_leading_zeros-front.ensures.zeros c.trim_leading_zeros.ensures.zeros n,
    )

pub returns-else-is_empty-clause-zeros : goal.returns-else-is_empty-clause-zeros
returns-else-is_empty-clause-zeros c = (
  length c.args.whole.now - length c.trim_leading_zeros-front.result.now,
  rw
      (← append_assoc, ← c.trim_leading_zeros-front.ensures.zeros),
)
