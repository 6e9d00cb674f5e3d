use Rattle.ijson_number.proofs.Common.{◌<◌, sym, length, arith}
use Rattle.ijson_number.proofs.comparing.NumberOrder.{sign_below, sign_above}
use Rattle.ijson_number.proofs.comparison.StrippedNumberDigitRow.sign.Goals as goal

pub returns-then-self : goal.returns-then-self
returns-then-self c =
    let n = c.args.self.now in
    let some : 0 < length n.digits.now = grind arith in
    sym (sign_below n.negative n.digits.now c.if-self.true n.stripped some)

pub returns-else-self : goal.returns-else-self
returns-else-self c =
    let n = c.args.self.now in
    let some : 0 < length n.digits.now = grind arith in
    sym (sign_above n.negative n.digits.now c.if-self.false n.stripped some)
