use Rattle.std.proofs.Common.{◌+◌, ◌*◌, ◌%◌, ap₂, sym, ◌∙◌}
use Rattle.ijson_table.proofs.arithmetic.Reciprocal.{by_more}
use Rattle.ijson_table.proofs.slots.KeptHashes.{kept-narrow, kept-wide}
use Rattle.ijson_table.proofs.slot.Modulus.split.Goals as goal

pub returns-then-self-gt-NARROW_SLOTS-clause-kept : goal.returns-then-self-gt-NARROW_SLOTS-clause-kept
returns-then-self-gt-NARROW_SLOTS-clause-kept c = sym (kept-wide c.args.self.count c.args.hash c.if-self-gt-NARROW_SLOTS.true)

pub returns-else-self-gt-NARROW_SLOTS-clause-kept : goal.returns-else-self-gt-NARROW_SLOTS-clause-kept
returns-else-self-gt-NARROW_SLOTS-clause-kept c =
    let n = c.args.self.count in
    let kept = ap₂ (λ q r. q % 256 * n + r) c.divided-quotient.ensures.quotient c.divided-quotient.ensures.left
    ∙ (by_more c.args.hash n c.args.self.some ∙ sym (kept-narrow n c.args.hash c.if-self-gt-NARROW_SLOTS.false)) in
    cc kept
