use Rattle.ijson_number.proofs.Common.{refl}
use Rattle.ijson_number.proofs.comparing.NumberOrder.{row_is}
use Rattle.ijson_number.proofs.comparison.StrippedNumberDigitRow.count.Goals as goal

pub returns : goal.returns
returns c = rw (← row_is c.args.self.now) refl
