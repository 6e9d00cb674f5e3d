use Rattle.ijson_number.proofs.Common.{◌∙◌}
use Rattle.ijson_number.proofs.parsing.DigitValues.{capped_step}
use Rattle.ijson_number.proofs.general_reader.capped.Goals as goal

pub loop-digit-preserved : goal.loop-digit-preserved
loop-digit-preserved c =
    c.min-number.ensures
    ∙ capped_step c.args.digits.now c.loop-digit.digit-index c.loop-digit.number c.loop-digit-test.true c.loop-digit.invariant
