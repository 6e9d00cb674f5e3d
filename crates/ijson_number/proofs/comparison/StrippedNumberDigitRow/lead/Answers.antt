use Rattle.ijson_number.proofs.Common.{arith, rules, FitsSigned, ints, w32}
use Rattle.ijson_number.proofs.comparing.NumberOrder.{row_is}
use Rattle.ijson_number.proofs.comparison.StrippedNumberDigitRow.lead.Goals as goal

pub returns : goal.returns
returns c =
    let fits : FitsSigned w32 c.args.self.now.exponent = search rules in
    rw (← row_is c.args.self.now) (omega (arith, ints, c.place_of.ensures.value, c.place_of.ensures.fits))
