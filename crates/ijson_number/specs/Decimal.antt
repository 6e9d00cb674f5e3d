-- A decimal has the value `mantissa * 10 ^ exponent`. `point` is `true` if the number was written
-- with a decimal point or an exponent (RFC 8259, section 6).
use Rattle.std.specs.Prelude.{◌≡◌, ◌≢◌, ◌%◌, ℤ, pos, nat_abs, ◌≤ℤ◌, Bool, false}

-- e.g. `-250` is significand -25, exponent 1, no point; `2.5` is 25, -1, a point.
pub record Decimal : Type 0 where
  pub mantissa : ℤ
  pub exponent : ℤ
  pub point : Bool

-- Holds if the decimal is canonical: the exponent of zero is 0, ten does not divide a nonzero
-- mantissa, and a number without a decimal point is an integer.
-- e.g. `1.50` is 15 and -1; 150 and -2 is not plain; `0.0` is 0 and 0.
pub record IsPlain (n : Decimal) : Type 0 where
  pub zero : n.mantissa ≡ pos 0 → n.exponent ≡ pos 0
  pub stripped : n.mantissa ≢ pos 0 → nat_abs n.mantissa % 10 ≢ 0
  pub whole : n.point ≡ false → pos 0 ≤ℤ n.exponent
