use Rattle.ijson_number.proofs.Common.{◌≡◌, take, number_from_digits_after, digits_from_text}
use Rattle.ijson_number.proofs.general_reader.append_digits.Given as goal

abbrev pub invariant-loop-digit : goal.invariant-loop-digit
invariant-loop-digit l = l.longer ≡ number_from_digits_after 10 l.number (digits_from_text (take l.digit-index l.digits))
