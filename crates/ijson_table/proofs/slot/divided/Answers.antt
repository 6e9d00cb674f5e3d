use Rattle.std.proofs.Common.{◌*◌, ◌/◌, ◌^◌, ◌∙◌, rules}
use Rattle.ijson_table.proofs.arithmetic.Reciprocal.{quotient-not_above, quotient-near, divides, divides_more}
use Rattle.ijson_table.proofs.slot.divided.Goals as goal

pub overflow_sub-left : goal.overflow_sub-left
overflow_sub-left c =
    quotient-not_above c.args.hash c.args.count c.from.result c.from-2.result c.from.ensures (c.from-2.ensures ∙ c.requires.reciprocal)

pub returns-then-left-count : goal.returns-then-left-count
returns-then-left-count c =
    let within = quotient-not_above c.args.hash c.args.count c.from.result c.from-2.result c.from.ensures
    (c.from-2.ensures ∙ c.requires.reciprocal) in
    let is = divides c.args.hash c.args.count (c.from.result * c.from-2.result / 2 ^ 64) within c.if-left-count.true in
    record { quotient = is.quotient; left = is.left_is }

pub returns-else-left-count : goal.returns-else-left-count
returns-else-left-count c =
    let reciprocal = c.from-2.ensures ∙ c.requires.reciprocal in
    let within = quotient-not_above c.args.hash c.args.count c.from.result c.from-2.result c.from.ensures reciprocal in
    let near = quotient-near c.args.hash c.args.count c.from.result c.from-2.result c.from.ensures reciprocal c.requires.some
    c.ranges.hash.fits in
    let is = divides_more c.args.hash c.args.count (c.from.result * c.from-2.result / 2 ^ 64) within near c.if-left-count.false in
    record { quotient = search (rules, is.quotient); left = search (rules, is.left_is) }
