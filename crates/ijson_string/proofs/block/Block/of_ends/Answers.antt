use Rattle.std.proofs.Common.{◌≡◌, ◌∙◌, ℕ, List, length, drop, replicate, subst, arith}
use Rattle.std.proofs.lemmas.Grind.{common_steps}
use Rattle.ijson_string.proofs.Prefixes.{zeros_behind}
use Rattle.ijson_string.proofs.block.Block.of_ends.Goals as goal

pub invariant_of-result : goal.invariant_of-result
invariant_of-result g c = record {
  inside = grind (arith, common_steps);
  utf8 = grind (arith, common_steps);
  zeros = zeros_behind c.put_piece-2.new.bytes (length c.args.text.now) g.row.N (grind (arith, common_steps))
      (subst (λ (text : List ℕ). drop (length text) c.put_piece-2.new.bytes ≡ drop (length text) (replicate g.row.N 0))
      c.as_bytes-source.ensures.value (c.put_piece-2.ensures.rest ∙ c.put_piece.ensures.rest));
}

-- This proof is written out because the default tactics take longer to find it.
pub returns : goal.returns
returns g c = grind (arith, common_steps)
