-- Integers as decimals.
use Rattle.std.specs.Prelude.{◌≡◌, ℤ, pos, false, IsTrue}
use Rattle.ijson_number.specs.Decimal.{Decimal}
use Rattle.ijson_number.specs.Order.{number_eq}

-- The decimal of an integer, without a decimal point and with trailing zeros kept in the mantissa.
abbrev pub integer : ℤ → Decimal
integer z = record { mantissa = z; exponent = pos 0; point = false }

-- Holds if the number is equal by value to the integer `z`.
abbrev pub HasValue : Decimal → ℤ → Type 0
HasValue n z = IsTrue (number_eq n (integer z))

-- Holds if the number has the value `z` and lacks a decimal point.
-- e.g. `2.0` and `2` have the value 2, and only `2` is the integer 2; 2.5 has no whole value.
pub record IsInteger (n : Decimal) (z : ℤ) : Type 0 where
  pub value : HasValue n z
  pub no_point : n.point ≡ false
