use Rattle.ijson_number.proofs.Common.{◌≡◌, take, digits_from_text}
use Rattle.ijson_number.proofs.repr.stored.make_digits.Given as goal

abbrev pub invariant-loop-at : goal.invariant-loop-at
invariant-loop-at l = take l.at l.buffer ≡ digits_from_text (take l.at l.text)
