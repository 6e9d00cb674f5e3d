use Rattle.std.proofs.Common.{◌∙◌, ap, sym, length, arith}
use Rattle.ijson_string.proofs.ChainLinks.{IsTable-none}
use Rattle.ijson_string.proofs.table.TextTable.clear.Goals as goal

pub invariant_of-self : goal.invariant_of-self
invariant_of-self c =
    let bounded = c.self.invariant.0.bounded in (
      rw (c.clear-2.ensures.items, c.fill.ensures.items (λ _ e. e)) (IsTable-none c.self.inside.buckets.len (omega (arith, bounded))),
      ap length c.clear.ensures.items ∙ sym (ap length c.clear-2.ensures.items),
    )
