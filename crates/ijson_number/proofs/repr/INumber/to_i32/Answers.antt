use Rattle.ijson_number.proofs.Common.{arith, ints, w32}
use Rattle.ijson_number.proofs.Conversions.{none_signed, signed}
use Rattle.ijson_number.proofs.repr.INumber.to_i32.Goals as goal

pub returns-in_err-whole : goal.returns-in_err-whole
returns-in_err-whole c = none_signed w32 c.args.self.now.decimal (λ z f. omega (arith, ints)) c.in_err-whole.ensures.none c.from_residual.ensures

pub returns : goal.returns
returns c = signed w32 c.in_ok-whole.field-0 c.try_from.result c.args.self.now.is_num.plain c.in_ok-whole.ensures.some
    c.in_ok-whole.ensures.small c.try_from.ensures c.ok.ensures.value
