use Rattle.std.proofs.Common.{ℕ, ◌-◌, ◌∙◌, replicate, ap, arith}
use Rattle.std.proofs.lemmas.Str.{IsUtf8-had}
use Rattle.ijson_string.proofs.Prefixes.{utf8_with_zeros}
use Rattle.ijson_string.proofs.block.Block+7.padded.Goals as goal

pub returns-clause-utf8 : goal.returns-clause-utf8
returns-clause-utf8 c = rw c.from_utf8_unchecked.ensures (IsUtf8-had _ c.self.invariant.utf8)

pub from_utf8_unchecked-requires : goal.from_utf8_unchecked-requires
from_utf8_unchecked-requires c =
    utf8_with_zeros c.self.inside.bytes c.self.inside.len (IsUtf8-had _ c.self.invariant.utf8) c.self.invariant.zeros

pub returns-clause-zeros : goal.returns-clause-zeros
returns-clause-zeros c = rw c.from_utf8_unchecked.ensures (c.self.invariant.zeros
    ∙ ap (λ (n : ℕ). replicate (n - c.self.inside.len) 0) (omega arith))
