use Rattle.ijson_number.proofs.Common.{arith, w64}
use Rattle.ijson_number.proofs.Conversions.{none_unsigned, unsigned}
use Rattle.ijson_number.proofs.repr.INumber.to_u64.Goals as goal

pub returns-in_err-whole : goal.returns-in_err-whole
returns-in_err-whole c = none_unsigned w64 c.args.self.now.decimal (omega arith) c.in_err-whole.ensures.none c.from_residual.ensures

pub returns : goal.returns
returns c = unsigned w64 c.in_ok-whole.field-0 c.try_from.result c.args.self.now.is_num.plain c.in_ok-whole.ensures.some
    c.in_ok-whole.ensures.small c.try_from.ensures c.ok.ensures.value
