use Rattle.ijson_number.proofs.Common.{refl}
use Rattle.ijson_number.proofs.comparing.NumberOrder.{row_is}
use Rattle.ijson_number.proofs.comparison.StrippedNumberDigitRow.digit.Goals as goal

pub bounds-self-at : goal.bounds-self-at
bounds-self-at c = rw (row_is c.args.self.now) c.requires.within

pub returns-clause-digit : goal.returns-clause-digit
returns-clause-digit c = rw (← row_is c.args.self.now) refl
