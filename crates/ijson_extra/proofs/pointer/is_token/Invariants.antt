use Rattle.std.proofs.Common.{◌≡◌, is_some, length}
use Rattle.ijson_extra.specs.Pointer.{meant}
use Rattle.ijson_extra.proofs.pointer.is_token.Given as goal

-- The token has a meaning exactly if the remaining bytes have a meaning.
abbrev pub invariant-loop-rest : goal.invariant-loop-rest
invariant-loop-rest l = is_some (meant l.fn.token) ≡ is_some (meant l.left)

abbrev pub decreases-loop-rest : goal.decreases-loop-rest
decreases-loop-rest l = length l.left
