-- The digits that a comparison of numbers reads. `digit_count` is the number of digits of the
-- canonical mantissa.
use Rattle.std.specs.Prelude.{◌≡◌, ◌≢◌, ℕ, ℤ, pos, ◌+ℤ◌, ◌*◌, min, length}
use Rattle.std.specs.Ordering.{int_cmp}
use Rattle.ijson_number.specs.Decimal.{Decimal}
use Rattle.ijson_number.specs.StrippedDigits.{stripped_digits}

abbrev pub digit_count : Decimal → ℕ
digit_count n = length (stripped_digits n)

-- The number of digits before the decimal point, negative if zeros follow the point; 0 for the
-- number zero.
abbrev pub leading_place : Decimal → ℤ
leading_place n = pos (digit_count n) +ℤ n.exponent

-- Holds if the order of `a` and `b` depends on their digits: `a` is not zero, and both numbers have
-- the same sign and the same `leading_place`.
pub record NeedsDigits (a b : Decimal) : Type 0 where
  pub some : a.mantissa ≢ pos 0
  pub sign : int_cmp a.mantissa (pos 0) ≡ int_cmp b.mantissa (pos 0)
  pub place : leading_place a ≡ leading_place b

-- The maximum number of digits that a comparison of `a` and `b` reads: twice the smaller digit
-- count.
-- e.g. 250 has 2 digits and leads at place 3; 2.5 against 2.7 needs digits, at most 4 inspections;
-- 2.5 against 25 needs none.
abbrev pub most_looks : Decimal → Decimal → ℕ
most_looks a b = 2 * min (digit_count a) (digit_count b)
