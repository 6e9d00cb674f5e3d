-- The decimal with a given sign, digits, exponent and `point`.
use Rattle.std.specs.Prelude.{ℕ, ℤ, Bool, List}
use Rattle.std.specs.Int.Digits.{number_from_digits}
use Rattle.ijson_number.specs.Decimal.{Decimal}
use Rattle.ijson_number.specs.Strips.{signed}

-- e.g. a minus, the digits 2 and 5, exponent 1 and no point are `-250`.
abbrev pub stored_number : (negative : Bool) → (digits : List ℕ) → (exponent : ℤ) → (point : Bool) → Decimal
stored_number negative digits exponent point = record {
  mantissa = signed negative (number_from_digits 10 digits);
  exponent = exponent;
  point = point;
}
