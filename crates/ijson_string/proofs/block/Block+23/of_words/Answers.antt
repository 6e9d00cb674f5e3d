use Rattle.std.proofs.Common.{◌≡◌, ◌+◌, ◌∙◌, ℕ, List, length, drop, replicate, subst, arith}
use Rattle.std.proofs.lemmas.Grind.{common_steps}
use Rattle.ijson_string.proofs.Prefixes.{alike_before, zeros_behind}
use Rattle.ijson_string.proofs.block.Block+23.of_words.Goals as goal

pub put_piece-requires-2-clause-begun : goal.put_piece-requires-2-clause-begun
put_piece-requires-2-clause-begun c = alike_before c.min.result 8 c.put_piece.new.bytes _
    (omega (arith, c.min.ensures)) c.put_piece.ensures.put

pub put_piece-requires-3-clause-begun : goal.put_piece-requires-3-clause-begun
put_piece-requires-3-clause-begun c =
    alike_before _ (c.min.result + 8) c.put_piece-2.new.bytes _ (omega (arith, c.min.ensures)) c.put_piece-2.ensures.put

pub invariant_of-result : goal.invariant_of-result
invariant_of-result c = record {
  inside = grind (arith, common_steps);
  utf8 = grind (arith, common_steps);
  zeros = zeros_behind c.put_piece-3.new.bytes (length c.args.text.now) 23 (grind (arith, common_steps))
      (subst (λ (text : List ℕ). drop (length text) c.put_piece-3.new.bytes ≡ drop (length text) (replicate 23 0))
      c.as_bytes-source.ensures.value (c.put_piece-3.ensures.rest ∙ c.put_piece-2.ensures.rest ∙ c.put_piece.ensures.rest));
}
