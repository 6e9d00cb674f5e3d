use Rattle.ijson_number.proofs.Common.{◌≡◌, ◌-◌, form_of, smallest_packed, canonical_number}
use Rattle.ijson_number.proofs.significand.Significand.whole_word.Given as goal

-- Loop invariant: the mantissa does not fit at any smaller exponent.
abbrev pub invariant-loop-exponent : goal.invariant-loop-exponent
invariant-loop-exponent l = form_of (canonical_number l.self) ≡ smallest_packed (8 - l.exponent) l.exponent (canonical_number l.self)
