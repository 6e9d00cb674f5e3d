use Rattle.std.proofs.Common.{◌≡◌, ◌↔◌, Some, drop}
use Rattle.ijson_extra.specs.Pointer.{meant}
use Rattle.ijson_extra.proofs.pointer.means.Given as goal

-- The token means the key exactly if the remaining token means the remaining key.
abbrev pub invariant-loop-byte : goal.invariant-loop-byte
invariant-loop-byte l = (meant l.fn.token ≡ Some l.fn.key) ↔ (meant l.left ≡ Some (drop l.byte-index l.byte-items))
