use Rattle.ijson_number.proofs.Common.{◌≡◌, ◌++◌, take, digits_from_text}
use Rattle.ijson_number.proofs.repr.stored.push_values.Given as goal

abbrev pub invariant-loop-byte : goal.invariant-loop-byte
invariant-loop-byte l = l.digits.items ≡ l.fn.digits.items ++ digits_from_text (take l.byte-index l.text)
