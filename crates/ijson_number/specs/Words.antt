-- The words that a number feeds to a hasher, each by one call of `write_u64`. The choice of words
-- is this project's own.
use Rattle.std.specs.Prelude.{ℕ, pos, nat_abs, nat_eq, ◌+ℤ◌, int_lt, true, false, if◌then◌else◌, List, [], ◌∷◌, length}
use Rattle.ijson_number.specs.Decimal.{Decimal}
use Rattle.ijson_number.specs.StrippedDigits.{stripped_digits}

-- For zero, the words are 2 and 0. For any other number they are 2, the sign as 1 (positive) or 2
-- (negative), the exponent plus `2 ^ 31`, the number of digits, and the digits.
-- e.g. `2` and `2.0` feed 2, 1, 2147483648, 1, 2; `-0.5` feeds 2, 2, 2147483647, 1, 5.
abbrev pub number_words : Decimal → List ℕ
number_words n =
    elim (nat_eq (nat_abs n.mantissa) 0) [
      | true ↦ 2 ∷ 0 ∷ []
      | false ↦
          2
          ∷ (if int_lt n.mantissa (pos 0) then 2 else 1)
          ∷ nat_abs (n.exponent +ℤ pos 2147483648)
          ∷ length (stripped_digits n)
          ∷ stripped_digits n
    ]
