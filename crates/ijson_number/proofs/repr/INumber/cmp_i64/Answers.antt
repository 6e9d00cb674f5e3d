use Rattle.ijson_number.proofs.Common.{◌∙◌, rules, to_z-of_z, w64}
use Rattle.ijson_number.proofs.storing.WholeValues.{integer_cmp}
use Rattle.ijson_number.proofs.repr.INumber.cmp_i64.Goals as goal

pub returns : goal.returns
returns c = c.cmp-2.ensures ∙ integer_cmp c.args.self.now.decimal c.from.result.decimal c.args.value (rw (to_z-of_z w64 c.args.value (search rules)) at c.from.ensures)
