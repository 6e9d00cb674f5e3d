use Rattle.std.proofs.Common.{◌≡◌, length}
use denote.Text.{Utf8}
use denote.Shadow.{shadow}
use Rattle.std.specs.Prelude.{is_some}
use Rattle.ijson_extra.specs.Pointer.{all_meant, written_tokens}
use Rattle.ijson_extra.proofs.pointer.lend.are_tokens.Given as goal

-- All tokens have a meaning exactly if the remaining tokens have a meaning.
abbrev pub invariant-loop-behind : goal.invariant-loop-behind
invariant-loop-behind l = record {
  utf8 : shadow (Utf8 l.left);
  same : is_some (all_meant (written_tokens l.fn.tokens)) ≡ is_some (all_meant (written_tokens l.left));
}

abbrev pub decreases-loop-behind : goal.decreases-loop-behind
decreases-loop-behind l = length l.left
