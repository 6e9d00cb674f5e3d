use Rattle.ijson_number.proofs.Common.{◌≡◌, ◌^◌, min, take, value}
use Rattle.ijson_number.proofs.general_reader.capped.Given as goal

abbrev pub invariant-loop-digit : goal.invariant-loop-digit
invariant-loop-digit l = l.number ≡ min (value (take l.digit-index l.digits)) (2 ^ 80)
