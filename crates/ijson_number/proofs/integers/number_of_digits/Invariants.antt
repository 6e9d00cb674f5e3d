use Rattle.ijson_number.proofs.Common.{◌≡◌, take, number_from_digits}
use Rattle.ijson_number.proofs.integers.number_of_digits.Given as goal

abbrev pub invariant-loop-digit : goal.invariant-loop-digit
invariant-loop-digit l = l.number ≡ number_from_digits 10 (take l.digit-index l.digits)
