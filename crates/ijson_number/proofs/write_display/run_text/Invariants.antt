use Rattle.ijson_number.proofs.Common.{◌≡◌, take, digits_text}
use Rattle.ijson_number.proofs.write_display.run_text.Given as goal

abbrev pub invariant-loop-at : goal.invariant-loop-at
invariant-loop-at l = take l.at l.buffer ≡ digits_text (take l.at l.digits)
