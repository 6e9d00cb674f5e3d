use Rattle.std.proofs.Common.{◌≡◌, drop}
use Rattle.std.specs.Str.{all_ascii_digits}
use Rattle.ijson_extra.proofs.pointer.all_digits.Given as goal

-- All bytes are digits exactly if the remaining bytes are digits.
abbrev pub invariant-loop-byte : goal.invariant-loop-byte
invariant-loop-byte l = all_ascii_digits l.bytes ≡ all_ascii_digits (drop l.byte-index l.bytes)
