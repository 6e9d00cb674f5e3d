use Rattle.ijson_number.proofs.Common.{◌∙◌, pos}
use Rattle.ijson_number.proofs.storing.WholeValues.{integer_cmp}
use Rattle.ijson_number.proofs.repr.INumber.cmp_u64.Goals as goal

pub returns : goal.returns
returns c = c.cmp-2.ensures ∙ integer_cmp c.args.self.now.decimal c.from.result.decimal (pos c.args.value) c.from.ensures
